-- A unit between users, by no source route: the frames that its system sends have PDUs of users, and the system is as it was but for its clock and its identifiers.
use Rattle.std.proofs.Common.{◌≡◌, ℕ, Bool, true, false, List, [], ◌∷◌, Option, Some, Ok, Err, refl, sym, subst}
use Rattle.std.specs.List.{AllByRecursion}
use Rattle.nsap.specs.declared.port.Hop.{Hop}
use Rattle.nsap.specs.declared.port.Port.{Port}
use Rattle.osi_base.specs.declared.unit.DropCause.{DropCause}
use Rattle.osi_base.specs.declared.unit.Unit.{Unit as CarriedUnit}
use Rattle.osi_base.specs.declared.unit.Wish.{Wish}
use Rattle.clnp_options.specs.declared.reason.PduKind.TheVariants.{Dt}
use Rattle.clnp_header.specs.declared.pdu.Pdu.{Pdu}
use Rattle.lan_step.specs.declared.row.PortRow.{PortRow}
use Rattle.esis_tables.specs.Rows.{Rows}
use Rattle.clnp_system.specs.Hops.{hop_of}
use Rattle.clnp_system.specs.Node.{Frame, Node, at_tick}
use Rattle.clnp_system.specs.Sending.{IsDropped as IsRefused, IsSent, Sends, first_pdu, numbered_if}
use Rattle.clnp_system.specs.Setting.{Setting, is_group, room_of}
use Rattle.clnp_system.specs.Tables.{rows_tables}
use Rattle.clnp_system.proofs.Outgoing.{IsPiece, cuts_are}
use Rattle.law_clnp_step.proofs.Lists.{all_weaker}
use Rattle.law_clnp_step.specs.Sound.{IsAmong}
use Rattle.law_clnp_net.specs.Calm.{IsCalmNet, titles_of}
use Rattle.law_clnp_net.proofs.joining.Sent.{hop_found}
use Rattle.law_clnp_net.specs.Reached.{IsHarmless, IsOfUsers, KnowsNobody}
use Rattle.law_clnp_net.proofs.reached.Reports.{IsSingle, frames_harmless, is_single}

-- what a unit leaves of its system
pub record KeepsNode (titles : List (List ℕ)) (node after : Node Rows) : Type 0 where
  pub knows : KnowsNobody titles after
  pub setup : after.setup ≡ node.setup

pub ticked_keeps : (titles : List (List ℕ)) (node after : Node Rows) (now : ℕ) → KnowsNobody titles node → after ≡ at_tick now node → KeepsNode titles node after
ticked_keeps titles node after now knows is =
    subst (KeepsNode titles node) (sym is) (record { knows = record { neighbours = knows.neighbours; redirects = knows.redirects; held = knows.held; room = knows.room }; setup = refl })

numbered_keeps : (titles : List (List ℕ)) (cut : Bool) (node : Node Rows) (now : ℕ) → KnowsNobody titles node → KeepsNode titles node (numbered_if cut (at_tick now node) now)
numbered_keeps titles true node now knows = record { knows = record { neighbours = knows.neighbours; redirects = knows.redirects; held = knows.held; room = knows.room }; setup = refl }
numbered_keeps titles false node now knows = record { knows = record { neighbours = knows.neighbours; redirects = knows.redirects; held = knows.held; room = knows.room }; setup = refl }

same_frames : (frames others : List Frame) → ◌≡◌ {A = Rattle.std.specs.Prelude.Result (List Frame) DropCause} (Ok frames) (Ok others) → frames ≡ others
same_frames frames others e = cc

single_hop : (found : Option Hop) (way : Hop) → IsSingle found → found ≡ Some way → is_group way.port.snpa ≡ false
single_hop found way single is = subst IsSingle is single

module _ (rows : List PortRow) (first second : Setting) (here there : Port) (calm : IsCalmNet rows first second here there) where
  abbrev titles : List (List ℕ)
  titles = titles_of first second

  pub sends_leaves : (node : Node Rows) (now : ℕ) (unit : CarriedUnit (List ℕ)) (wish : Wish) (frames : List Frame) (after : Node Rows) → IsAmong node.setup (first ∷ second ∷ [])
      → KnowsNobody titles node → IsOfUsers titles unit.from → IsOfUsers titles unit.to → wish.path ≡ 0 → Sends rows_tables node now unit wish (Ok frames) after
      → KeepsNode titles node after × AllByRecursion (IsHarmless titles) frames
  sends_leaves node now unit wish frames after there_is knows from to plain (IsRefused cause is sent_is after_is) = absurd cc
  sends_leaves node now unit wish frames after there_is knows from to plain (IsSent way found is cut sent_is after_is) =
      let found_is : hop_of rows_tables node now unit.to ≡ Some way = hop_found rows_tables node now unit wish way is plain in
      let single = single_hop (hop_of rows_tables node now unit.to) way (is_single rows first second here there calm node now unit.to there_is knows to) found_is in
      let pdu = first_pdu node.setup unit wish node.next_id in
      let pieces = cuts_are pdu (room_of node.setup way.port.lan) pdu.segment cut.0 refl cut.1 in
      let sources = all_weaker (IsPiece pdu) (λ (piece : Pdu). piece.kind ≡ Dt → IsOfUsers titles piece.source) cut.0 (λ piece of dt. subst (IsOfUsers titles) (sym of.source) from) pieces in (
        subst (KeepsNode titles node) (sym after_is) (numbered_keeps titles wish.cut node now knows),
        subst (AllByRecursion (IsHarmless titles)) (sym (same_frames frames found sent_is)) (frames_harmless titles node.setup way.port cut.0 found single sources cut.2),
      )

  pub refuses_leaves : (node : Node Rows) (now : ℕ) (unit : CarriedUnit (List ℕ)) (wish : Wish) (cause : DropCause) (after : Node Rows) → KnowsNobody titles node
      → Sends rows_tables node now unit wish (Err cause) after → KeepsNode titles node after
  refuses_leaves node now unit wish cause after knows (IsRefused other is sent_is after_is) = ticked_keeps titles node after now knows after_is
  refuses_leaves node now unit wish cause after knows (IsSent way found is cut sent_is after_is) = absurd cc
