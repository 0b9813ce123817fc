-- What a picture writes, by how it ends.
use Rattle.std.proofs.Common.{◌≡◌, ℕ, List, refl, sym, subst}
use Rattle.std.specs.Prelude.{IfSome, Option, Some, None, codes}
use Rattle.host_io.specs.Past.{Past}
use Rattle.arguments.specs.declared.colours.Colours.{Colours}
use Rattle.arguments.specs.declared.colours.Colours.TheVariants.{Plain, By, Marks}
use Rattle.arguments.specs.declared.tables_from.TablesFrom.{TablesFrom}
use Rattle.arguments.specs.declared.tables_from.TablesFrom.TheVariants.{File, Listing}
use Rattle.net_addr.specs.Address.{IsAddress}
use Rattle.peer_rec.specs.declared.rec.Rec.{Rec}
use Rattle.peers_file.specs.declared.chain.Chain.{Chain}
use Rattle.peers_file.specs.declared.chain.Chain.TheVariants.{Main, Test, Testnet4, Signet, Regtest, Other}
use Rattle.picture_laws.proofs.Trees.{has-addresses, tree-by-view, tree-of-sets, tree-of-view}
use Rattle.picture_laws.specs.Slots.{HasAddresses, HasPeers, HasSources}
use Rattle.picture_text.specs.Markup.{IsPlain, IsTree}
use Rattle.raw_view.proofs.Addresses.{listed-peers}
use Rattle.table_groups.specs.View.{View, occupant_at}
use Rattle.addrman_run.proofs.TextOuts.{text_so}
use Rattle.addrman_run.specs.Listing.{keyless_places}
use Rattle.addrman_run.specs.Picture.{HaveAddresses, IsPicture, by_of, chain_name, picture_for, sets_of}
use Rattle.addrman_run.specs.TextOut.{TextOut}
use Rattle.addrman_run.specs.Views.{IsView, IsViewText, ReportsView, chain_of}
use Rattle.addrman_run.specs.declared.status.Status.{Status}

plain-chain : (chain : Chain) → IsPlain (chain_name chain)
plain-chain Main = refl
plain-chain Test = refl
plain-chain Testnet4 = refl
plain-chain Signet = refl
plain-chain Regtest = refl
plain-chain (Other magic) = refl

-- the sources and peers of the records that are looked at have addresses
view-peers : (from : TablesFrom) (past : Option Past) (view : View) → IsView from past view → HasPeers view
view-peers (File kind) past view is = subst HasPeers (sym is.2) (has-addresses is.0 is.1.sound.records)
view-peers (Listing chain) past view is = subst HasPeers (sym is.is) (listed-peers (keyless_places is.map) is.is_in.0 is.raw is.is_in.2)

source-of : (o : Option Rec) → IfSome o HasAddresses → IfSome o (λ r. IsAddress r.source)
source-of None is = tt
source-of (Some r) is = is.0

sources-of : (view : View) → HasPeers view → HasSources view
sources-of view each in_new bucket slot = source-of (occupant_at view in_new bucket slot) (each in_new bucket slot)

tree-for : (colours : Colours) (chain : Chain) (view : View) → HasPeers view → HaveAddresses colours → IsTree (codes "svg") (picture_for colours chain view)
tree-for Plain chain view each have = tree-of-view view (sources-of view each)
tree-for (By by) chain view each have = tree-by-view (by_of by) (chain_name chain) view (plain-chain chain) each
tree-for (Marks marks) chain view each have = tree-of-sets (sets_of marks) (chain_name chain) view (plain-chain chain) have

-- what is written is a picture, and so the text of a tree
pub drawn : (colours : Colours) (from : TablesFrom) (past : Option Past) (old new : Option (List ℕ)) (status : Status)
    → TextOut (IsViewText (λ view text. (text ≡ picture_for colours (chain_of from) view) × HaveAddresses colours) from) (ReportsView from) past old new status
    → TextOut (IsViewText (IsPicture colours (chain_of from)) from) (ReportsView from) past old new status
drawn colours from past old new status =
    text_so (IsViewText (λ view text. (text ≡ picture_for colours (chain_of from) view) × HaveAddresses colours) from) (IsViewText (IsPicture colours (chain_of from)) from) (ReportsView from) past old new status
    (λ text is. (is.0, is.1, record { is = is.2.0; tree = subst (IsTree (codes "svg")) (sym is.2.0) (tree-for colours (chain_of from) is.0 (view-peers from past is.0 is.1) is.2.1) }))
