-- Worked examples of lists of bans and of their elements, computed by the checker.
use Rattle.std.proofs.Common.{◌≡◌, ℕ, List, [], ◌∷◌, ◌++◌, codes, true, Option, Some, None, refl}
use Rattle.std.specs.Prelude.{find, negsuc}
use Rattle.net_addr.specs.OldForm.{address}
use Rattle.net_addr.specs.Ranges.{in_range}
use Rattle.net_addr.specs.Same.{same_address}
use Rattle.net_addr.specs.declared.net.Net.TheVariants.{Ipv4}
use Rattle.serde_json.specs.Data.{Data, object, member, no_members, number, unsigned, negative, boolean}
use Rattle.ban_list.specs.Bans.{put, stops, after_ban, ban_of, current_by, Outcome}
use Rattle.ban_list.specs.BanFile.{merged, time_at}
use Rattle.json.specs.Json as json
use Rattle.ban_list.specs.NewFile.{Element, Member, ban_tree, members_of, own_members, with_list}
use Rattle.ban_list.specs.declared.ban.BanRule.TheVariants.{Labels, Names}
use Rattle.ban_list.specs.declared.subnet.Subnet.{Subnet}
use Rattle.ban_list.specs.declared.ban.Ban.{Ban}
use Rattle.ban_list.specs.declared.bans.BanReply.{BanReply}
use Rattle.ban_list.specs.declared.bans.BanReply.TheVariants.{Added, Kept}

-- 1.2.3.0/24, 1.0.0.0/8 and 9.9.9.9
abbrev small : Subnet
small = record { addr = address Ipv4 (1 ∷ 2 ∷ 3 ∷ 0 ∷ []); len = 24 }

abbrev large : Subnet
large = record { addr = address Ipv4 (1 ∷ 0 ∷ 0 ∷ 0 ∷ []); len = 8 }

abbrev nine : Subnet
nine = record { addr = address Ipv4 (9 ∷ 9 ∷ 9 ∷ 9 ∷ []); len = 32 }

abbrev outcome : BanReply → List Ban → Outcome
outcome reply bans = record { reply = reply; bans = bans }

-- a listed subnet with a later end is kept, and a ban that is over is dropped all the same
kept : after_ban (ban_of small 1500 1900) (ban_of nine 0 1500 ∷ ban_of small 1000 2000 ∷ []) ≡ outcome Kept (ban_of small 1000 2000 ∷ [])
unfolding same_address
kept = refl

-- the same end is kept, a later one takes the place
same_end : after_ban (ban_of small 1500 2000) (ban_of small 1000 2000 ∷ ban_of large 0 3000 ∷ []) ≡ outcome Kept (ban_of small 1000 2000 ∷ ban_of large 0 3000 ∷ [])
unfolding same_address
same_end = refl

later_end : after_ban (ban_of small 1500 2001) (ban_of small 1000 2000 ∷ ban_of large 0 3000 ∷ []) ≡ outcome Added (ban_of small 1500 2001 ∷ ban_of large 0 3000 ∷ [])
unfolding same_address put
later_end = refl

-- an unlisted subnet goes last
unlisted : after_ban (ban_of small 1500 1501) (ban_of large 0 3000 ∷ []) ≡ outcome Added (ban_of large 0 3000 ∷ ban_of small 1500 1501 ∷ [])
unfolding same_address put
unlisted = refl

-- a ban that ends now is over, but not in a list by names
dropped : current_by Labels 2000 (ban_of small 0 2000 ∷ ban_of large 0 2001 ∷ []) ≡ ban_of large 0 2001 ∷ []
dropped = refl

not_swept : current_by Names 2000 (ban_of small 0 2000 ∷ ban_of large 0 1999 ∷ []) ≡ ban_of small 0 2000 ∷ []
not_swept = refl

-- the first ban that covers 1.2.3.99 and is not over
first_of_two : find (stops (address Ipv4 (1 ∷ 2 ∷ 3 ∷ 99 ∷ [])) 1999) (ban_of small 0 2000 ∷ ban_of large 0 3000 ∷ []) ≡ Some (ban_of small 0 2000)
unfolding in_range
first_of_two = refl

longest_is_over : find (stops (address Ipv4 (1 ∷ 2 ∷ 3 ∷ 99 ∷ [])) 2000) (ban_of small 0 2000 ∷ ban_of large 0 3000 ∷ []) ≡ Some (ban_of large 0 3000)
unfolding in_range
longest_is_over = refl

-- a later element's times stand in the place of the earlier one's
twice : merged (ban_of small 1000 2000 ∷ ban_of nine 1 2 ∷ ban_of small 7 8 ∷ []) ≡ ban_of small 7 8 ∷ ban_of nine 1 2 ∷ []
unfolding same_address put
twice = refl

abbrev at : Data → Option ℕ
at time = time_at (codes "ban_created") (object (member (codes "ban_created") time no_members))

-- times are clamped at both ends, and `true` is none
too_late : at (number (unsigned 4294967296)) ≡ Some 4294967295
too_late = refl

below_zero : at (number (negative (negsuc 4))) ≡ Some 0
below_zero = refl

not_a_number : at (boolean true) ≡ None
not_a_number = refl

-- two elements of 1.2.3.0/24, and one that is no ban between them
abbrev old : List Element
old =
    (json.object (members_of ((codes "version", json.number (codes "1")) ∷ (codes "z", json.number (codes "1.50")) ∷ (codes "a", json.null) ∷ (codes "z", json.boolean true) ∷ [])), Some small)
    ∷ (json.object (members_of ((codes "b", json.number (codes "-0")) ∷ (codes "a", json.null) ∷ [])), None)
    ∷ (json.object (members_of ((codes "a", json.number (codes "1E5")) ∷ (codes "address", json.null) ∷ [])), Some small) ∷ []

abbrev kept_members : List Member
kept_members = (codes "z", json.number (codes "1.50")) ∷ (codes "a", json.null) ∷ (codes "z", json.boolean true) ∷ (codes "a", json.number (codes "1E5")) ∷ []

-- a ban has what its elements have besides: in order, each as often as it was there, with its digits
besides_both : ban_tree old (ban_of small 5 9) ≡ json.object (members_of (own_members (ban_of small 5 9) ++ kept_members))
unfolding same_address
besides_both = refl

-- one of another subnet has only its four members
only_four : ban_tree old (ban_of nine 5 9) ≡ json.object (members_of (own_members (ban_of nine 5 9)))
unfolding same_address
only_four = refl

-- the list is where the first one was, and there is no other one
in_place : (list : json.Json) → with_list list ((codes "x", json.null) ∷ (codes "banned_nets", json.null) ∷ (codes "b", json.null) ∷ (codes "banned_nets", json.null) ∷ (codes "a", json.null) ∷ [])
    ≡ (codes "x", json.null) ∷ (codes "banned_nets", list) ∷ (codes "b", json.null) ∷ (codes "a", json.null) ∷ []
in_place list = refl
