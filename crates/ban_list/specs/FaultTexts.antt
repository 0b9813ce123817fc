-- The word for each fault of banlist.json.
use Rattle.std.specs.Prelude.{ℕ, List, codes}
use Rattle.ban_list.specs.declared.fault.BanFault.{BanFault}
use Rattle.ban_list.specs.declared.fault.BanFault.TheVariants.{Json, Form, TooMany, TooLarge, Memory}

-- The word of a fault.
abbrev pub ban_fault_text : BanFault → List ℕ
ban_fault_text Json = codes "json"
ban_fault_text Form = codes "form"
ban_fault_text TooMany = codes "too-many"
ban_fault_text (TooLarge size) = codes "too-large"
ban_fault_text Memory = codes "out of memory"
