-- Worked examples of the options of a replay.
use Rattle.std.specs.Prelude.{ℕ, List, [], ◌∷◌, ◌++◌, replicate, codes, Some, None, refl}
use Rattle.std.proofs.Common.{inl, inr}
use Rattle.hex.proofs.OnLiterals.{hex_on_literals}
use Rattle.peers_file.specs.declared.chain.Chain.TheVariants.{Main, Test, Signet}
use Rattle.arguments.specs.Options.{IsOpeningOptions}
use Rattle.arguments.specs.declared.chain_option.ChainOption.TheVariants.{Net}

abbrev digits : List ℕ
digits = codes "00000000000000000000000000000000000000000000000000000000000000ff"

abbrev key : List ℕ
key = replicate 31 0 ++ 255 ∷ []

no_options : IsOpeningOptions None [] Main
no_options = ([], [], refl, inl (refl, inl (refl, refl)))

only_a_key : IsOpeningOptions (Some key) (codes "--key" ∷ digits ∷ []) Main
unfolding hex_on_literals
only_a_key = (codes "--key" ∷ digits ∷ [], [], refl, inl ((digits, (refl, refl), inl refl), inl (refl, refl)))

key_and_chain : IsOpeningOptions (Some key) (codes "--key" ∷ digits ∷ codes "--net" ∷ codes "test" ∷ []) Test
unfolding hex_on_literals
key_and_chain = (
  codes "--key" ∷ digits ∷ [],
  codes "--net" ∷ codes "test" ∷ [],
  refl,
  inl ((digits, (refl, refl), inl refl), inr (Net, codes "test", refl, inl refl)),
)

chain_and_key : IsOpeningOptions (Some key) (codes "--net=signet" ∷ (codes "--key=" ++ digits) ∷ []) Signet
unfolding hex_on_literals
chain_and_key = (
  codes "--net=signet" ∷ [],
  (codes "--key=" ++ digits) ∷ [],
  refl,
  inr (inr (Net, codes "signet", refl, inr refl), (digits, (refl, refl), inr refl)),
)
