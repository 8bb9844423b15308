-- What a line of a script does, and the pump that follows, keep what a network and its relays have in common.
use Rattle.std.proofs.Common.{◌≡◌, ℕ, ◌+◌, ◌≤◌, Bool, true, false, List, [], ◌∷◌, length, refl, sym, ◌∙◌, ap, subst, arith}
use Rattle.std.specs.List.{AllByRecursion}
use Rattle.osi_base.specs.Link.{Link}
use Rattle.osi_base.specs.Calls.{Call, Keeps}
use Rattle.osi_base.proofs.Members.{all_weaker}
use Rattle.script_journal.specs.declared.cause.Refused.TheVariants as refused
use Rattle.script_journal.specs.declared.event.Event.{Event}
use Rattle.script_journal.specs.declared.event.Event.TheVariants as events
use Rattle.script_lines.specs.Commands.{HasLine}
use Rattle.script_lines.specs.declared.words.Dialect.TheVariants as dialects
use Rattle.script_lines.specs.declared.line.Line.{Line}
use Rattle.script_lines.specs.declared.line.Line.TheVariants as lines
use Rattle.law_setup.proofs.Moving.{line_near}
use Rattle.law_setup.proofs.Placing.{among}
use Rattle.tp4_conn.specs.declared.timers.Timers.{Timers}
use Rattle.tp4_number.specs.Number.{wire}
use Rattle.tp4_world.specs.Run.{RunsLine, Settles}
use Rattle.tp4_world.specs.World.{World}
use Rattle.tp4_relay.specs.declared.row.RelayRow.{RelayRow}
use Rattle.tp4_relay.specs.Allowed.{AreAllowed, AreLine}
use Rattle.tp4_relay.specs.Kept.{Kept, kept_after, noted}
use Rattle.tp4_relay.specs.steps.Tables.{IsTidy}
use Rattle.tp4_relay.proofs.Commuting.{allowed_more, line_passes, passes_notable}
use Rattle.tp4_relay.proofs.Telling.{rows_stay, rules_stay}
use Rattle.tp4_relay.proofs.Tidy.{tidy_more}
use Rattle.law_relay.specs.Asked.{is_relayed}
use Rattle.law_relay.specs.Relays.{Answers, Asking, Idle, LastTurn, OneTurn, Part, PumpsAfter, RelayRun, RunsPart, Settling, Turns, part_of}
use Rattle.law_relay.specs.Services.{IsInOrder, has_system}
use Rattle.law_relay.proofs.Linking.{line_ran, ran_told}
use Rattle.law_relay.proofs.Playing.{HasRow, Plays}
use Rattle.law_relay.proofs.Pumping.{pump_plays}
use Rattle.law_relay.proofs.Quieting.{line_quiet}
use Rattle.law_relay.proofs.Serving.{world_serves}
use Rattle.law_relay.proofs.Walks.{after_append}

line_tidy : (count : ℕ) (kept : Kept) (line : List Event) → IsTidy kept → AreLine count kept line → IsTidy (kept_after kept line)
line_tidy count kept [] tidy all = tidy
line_tidy count kept (event ∷ line) tidy all =
    line_tidy count (noted kept event) line (tidy_more kept event tidy (passes_notable kept event (line_passes kept tidy event all.0))) all.2

module _ {N : Type 0} (link : N → Link (List ℕ)) (steps : N → Call (List ℕ) → N → Type 0) (keeps : (old : N) (call : Call (List ℕ)) (new : N) → steps old call new → Keeps (link old) call (link new)) where
  -- what a line leaves before the pump
  pub record Leaves (old : World N) (kept : Kept) (made : List Event) (new : World N) : Type 0 where
    pub line : AreLine (length new.ends) kept made
    pub grows : length old.ends ≤ length new.ends
    pub plays : Plays link new (kept_after kept made)

  run_leaves : (titles : List (List ℕ)) (line : Line) (old new : World N) (made : List Event) (kept : Kept) → HasLine dialects.Relay line → RunsLine link steps wire titles old line made new → is_relayed kept line ≡ false
      → Plays link old kept → Leaves old kept made new
  run_leaves titles line old new made kept has s free p =
      let g = line_ran link steps wire titles line old new made has s kept free p.linked in
      let near = line_near link steps keeps titles old line made new s in
      record {
        line = g.line;
        grows = g.grows;
        plays = record {
          order = record { quiet = line_quiet link steps wire titles line old new made s p.order.quiet; of = g.linked.of };
          linked = g.linked;
          has = subst (λ (rows : List RelayRow). AllByRecursion (HasRow new) rows) (sym (rows_stay kept made))
              (all_weaker (HasRow old) (HasRow new) kept.rows (λ row there. among old.entities new.entities row.system near.systems there) p.has);
          credit = subst (λ (k : ℕ). k ≤ 255) (sym (ap (λ (rules : Timers). rules.credit) (rules_stay kept made))) p.credit;
          tidy = line_tidy (length new.ends) kept made p.tidy g.line;
        };
      }

  no_leaves : (old new : World N) (made : List Event) (kept : Kept) → made ≡ events.No refused.Relayed ∷ [] → new ≡ old → Plays link old kept → Leaves old kept made new
  no_leaves old new made kept told same p =
      let g = ran_told link steps old new made (events.No refused.Relayed ∷ []) (tt, tt) told same kept p.linked in
      record {
        line = g.line;
        grows = g.grows;
        plays = record {
          order = subst (λ (w : World N). IsInOrder link w) (sym same) p.order;
          linked = g.linked;
          has = subst (λ (rows : List RelayRow). AllByRecursion (HasRow new) rows) (sym (rows_stay kept made)) (subst (λ (w : World N). AllByRecursion (HasRow w) kept.rows) (sym same) p.has);
          credit = subst (λ (k : ℕ). k ≤ 255) (sym (ap (λ (rules : Timers). rules.credit) (rules_stay kept made))) p.credit;
          tidy = line_tidy (length new.ends) kept made p.tidy g.line;
        };
      }

  pub answer_leaves : (relayed : Bool) (titles : List (List ℕ)) (line : Line) (old new : World N) (made : List Event) (kept : Kept) → HasLine dialects.Relay line → is_relayed kept line ≡ relayed
      → Answers link steps relayed titles line old made new → Plays link old kept → Leaves old kept made new
  answer_leaves true titles line old new made kept has is s p = no_leaves old new made kept s.0 s.1 p
  answer_leaves false titles line old new made kept has is s p = run_leaves titles line old new made kept has s is p

  -- and the pump after it; and what is kept then is what is kept of all that was told
  pub record After (kept : Kept) (made : List Event) (new : World N) (last : Kept) : Type 0 where
    pub plays : Plays link new last
    pub last_is : last ≡ kept_after kept made
    pub allowed : AreAllowed kept made

  pub pumped : (Happens : World N → List Event → World N → Type 0) (old : World N) (kept : Kept) (done : Bool) (here made : List Event) (new : World N) (last : Kept)
      → ((mid : World N) → Happens old here mid → Leaves old kept here mid) → Plays link old kept → PumpsAfter link steps Happens old kept done here made new last → After kept made new last
  pumped Happens old kept done here made new last happened p s =
      let l = happened s.mid s.happens in
      let low = p.linked.named in
      let grows = l.grows in
      let after = pump_plays link steps (world_serves link steps keeps) s.mid new kept here done s.rest last p.tidy l.line (omega (arith, low, grows)) s.pumps l.plays in
      record { plays = after.plays; last_is = after.last_is ∙ sym (ap (kept_after kept) s.made_is); allowed = subst (AreAllowed kept) (sym s.made_is) after.allowed }

  pub settles : (old mid : World N) (here : List Event) (kept : Kept) → Plays link old kept → Settles link steps wire 0 old here mid → Leaves old kept here mid
  settles old mid here kept p s = run_leaves [] lines.Settle old mid here kept tt s refl p

  turned : (count : ℕ) (old : World N) (kept : Kept) (made : List Event) (new : World N) (last : Kept) → Turns link steps count old kept made new last → Plays link old kept → After kept made new last
  turned count old kept made new last (LastTurn n o k m l z done settled one stop) p =
      pumped (Settles link steps wire 0) old kept done settled made new last (λ mid s. settles old mid settled kept p s) p one
  turned count old kept made new last (OneTurn n o k m l z done settled mid middle here rest one more turns made_is) p =
      let first = pumped (Settles link steps wire 0) old kept done settled here mid middle (λ w s. settles old w settled kept p s) p one in
      let later = turned (count + 1) mid middle rest new last turns first.plays in
      record {
        plays = later.plays;
        last_is = later.last_is ∙ ap (λ (k : Kept). kept_after k rest) first.last_is ∙ sym (after_append kept here rest) ∙ ap (kept_after kept) (sym made_is);
        allowed = subst (AreAllowed kept) (sym made_is) (allowed_more kept here rest first.allowed (subst (λ (k : Kept). AreAllowed k rest) first.last_is later.allowed));
      }

  ran_part : (part : Part) (old : RelayRun N) (line : Line) (made : List Event) (new : World N) (last : Kept) → HasLine dialects.Relay line → RunsPart link steps part old line made new last → Plays link old.ends old.relay
      → After old.relay made new last
  ran_part Idle old line made new last has s p =
      record { plays = subst (Plays link new) (sym s.2) (subst (λ (w : World N). Plays link w old.relay) (sym s.1) p); last_is = s.2 ∙ sym (ap (kept_after old.relay) s.0); allowed = subst (AreAllowed old.relay) (sym s.0) tt }
  ran_part Settling old line made new last has s p = turned 0 old.ends old.relay made new last s p
  ran_part Asking old line made new last has s p =
      pumped (Answers link steps (is_relayed old.relay line) old.titles line) old.ends old.relay s.0 s.1 made new last
      (λ mid h. answer_leaves (is_relayed old.relay line) old.titles line old.ends mid s.1 old.relay has refl h p) p s.2

  -- so it is of every line
  pub line_plays : (old : RelayRun N) (line : Line) (made : List Event) (new : World N) (last : Kept) → HasLine dialects.Relay line → RunsPart link steps (part_of line) old line made new last → Plays link old.ends old.relay
      → After old.relay made new last
  line_plays old line made new last has s p = ran_part (part_of line) old line made new last has s p
