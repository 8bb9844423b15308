-- Where an end has left, a DR waits for its partner, which leaves by it.
use Rattle.std.proofs.Common.{◌≡◌, ◌⊎◌, inl, inr, ℕ, ◌+◌, Bool, false, ◌&&◌, not, List, [], ◌∷◌, ◌++◌, refl, sym, ◌∙◌, ap, subst, true≢false}
use Rattle.tpdu.specs.declared.tpdu.Tpdu.{Tpdu}
use Rattle.tpdu.specs.declared.tpdu.Tpdu.TheVariants.{Ak, Cc, Dr, Dt, Ea, Ed, Er}
use Rattle.tp4_number.specs.declared.got.Got.{Got}
use Rattle.tp4_number.specs.declared.got.Got.TheVariants.{TooLarge}
use Rattle.tp4_number.specs.declared.piece.Piece.{Piece}
use Rattle.tp4_number.specs.Number.{whole}
use Rattle.tp4_number.proofs.Past.{if_kept}
use Rattle.tp4_flow.specs.ReceivingHalf.{dt_arrival, taken_dt, taken_ed}
use Rattle.tp4_flow.specs.declared.step.Sent.{Sent}
use Rattle.tp4_conn.specs.declared.end_record.EndRecord.{EndRecord}
use Rattle.tp4_conn.specs.declared.states.InOpened.{InOpened}
use Rattle.tp4_conn.specs.declared.states.StateData.{StateData}
use Rattle.tp4_conn.specs.declared.states.StateData.TheVariants.{Opened}
use Rattle.tp4_conn.specs.End.{End, Moved, end_of}
use Rattle.tp4_conn.specs.Matching.{sum_agreed}
use Rattle.tp4_conn.specs.Opened.{dt_as, hearing, is_expedited, opened_tpdu, protocol_error, receiving}
use Rattle.tp4_conn.specs.Table.{Called, Took, at, stepped, takes}
use Rattle.law_tp4_pair.specs.Pair.{Asks_called, Asks_calling, Clock, Comes_back, Comes_forth, Happening, IsIdle, Leads, May, Pair, comes_back, comes_forth, next}
use Rattle.law_tp4_pair.specs.Standing.{HasLeft}
use Rattle.law_tp4_pair.proofs.Leaving.{stays_left}
use Rattle.law_tp4_pair.proofs.Pairs.{tick_left}
use Rattle.law_recovery_steps.specs.Going.{AreBothLeft}
use Rattle.law_recovery_steps.proofs.PartingRows.{HasRelease, IsRelease}

pub record IsFollowing (y : End) (waits : List Sent) : Type 0 where
  pub o : InOpened
  pub stage : y.stage ≡ Opened o
  pub sum : Bool
  pub fine : (sum_agreed y.base.agreed && not sum) ≡ false
  pub release : HasRelease sum waits

-- the first has left, and the second too or will
abbrev pub Follows : End → End → List Sent → Type 0
Follows x y waits = HasLeft x.stage × (HasLeft y.stage ⊎ IsFollowing y waits)

abbrev pub AreParting : Pair → Type 0
AreParting p = Follows p.calling p.called p.forth ⊎ Follows p.called p.calling p.back

-- an Opened end after a row: it has left, or is Opened, and agreed on the same
abbrev OpenRow : EndRecord → Moved → Type 0
OpenRow b m = HasLeft m.stage ⊎ ((r : InOpened) × (m.stage ≡ Opened r) × (m.base.agreed ≡ b.agreed))

dt_row : (b : EndRecord) (q : InOpened) (w : ℕ) (piece : Piece) (got : Got) → OpenRow b (dt_as got b q (taken_dt whole q.halves.receiving w piece))
dt_row b q w piece TooLarge = inl tt
dt_row b q w piece other = inr (_, refl, refl)

tpdu_row : (b : EndRecord) (q : InOpened) (tpdu : Tpdu) → OpenRow b (opened_tpdu whole b q tpdu)
unfolding opened_tpdu
tpdu_row b q (Cc credit destination source width calling called size preferred extra version classes ack_time text) = inr (_, refl, refl)
tpdu_row b q (Dr destination source reason info text) = inl tt
tpdu_row b q (Er destination cause rejected) = inl tt
tpdu_row b q (Dt destination last number text) = dt_row b q number (record { last = last; octets = text }) (dt_arrival q.halves.receiving number (record { last = last; octets = text })).got
tpdu_row b q (Ed destination last number text) = if_kept (OpenRow b) (is_expedited b.agreed) (receiving b q (taken_ed whole q.halves.receiving number text)) (protocol_error b) (λ _. inr (_, refl, refl)) (λ _. inl tt)
tpdu_row b q (Ak destination number credit subsequence confirmation) = inr (_, refl, refl)
tpdu_row b q (Ea destination number) = inr (_, refl, refl)
tpdu_row b q other = inr (q, refl, refl)

takes_row : (now : ℕ) (b : EndRecord) (q : InOpened) (tpdu : Tpdu) (sum : Bool) → OpenRow b (takes whole now b (Opened q) tpdu sum)
takes_row now b q tpdu sum = if_kept (OpenRow b) (sum_agreed b.agreed && not sum) _ _ (λ _. inr (q, refl, refl)) (λ _. tpdu_row (at now b) (hearing (at now b) q) tpdu)

-- it leaves by the DR
dr_leaves : (b : EndRecord) (q : InOpened) (tpdu : Tpdu) (sum is : Bool) → IsRelease sum tpdu is → HasLeft (opened_tpdu whole b q tpdu).stage
unfolding opened_tpdu
dr_leaves b q (Dr destination source reason info text) sum is e = tt
dr_leaves b q other sum is e = absurd e

release_sum : (tpdu : Tpdu) (sum is : Bool) → IsRelease sum tpdu is → is ≡ sum
release_sum (Dr destination source reason info text) sum is e = e
release_sum other sum is e = absurd e

release_leaves : (now : ℕ) (b : EndRecord) (q : InOpened) (tpdu : Tpdu) (sum is : Bool) → (sum_agreed b.agreed && not sum) ≡ false → IsRelease sum tpdu is → HasLeft (takes whole now b (Opened q) tpdu is).stage
release_leaves now b q tpdu sum is fine e = if_kept (λ (m : Moved). HasLeft m.stage) (sum_agreed b.agreed && not is) _ _
    (λ lacks. absurd (true≢false (sym lacks ∙ ap (λ (s : Bool). sum_agreed b.agreed && not s) (release_sum tpdu sum is e) ∙ fine)))
    (λ _. dr_leaves (at now b) (hearing (at now b) q) tpdu sum is e)

release_before : (sum : Bool) (l more : List Sent) → HasRelease sum l → HasRelease sum (l ++ more)
release_before sum [] more h = absurd h
release_before sum (sent ∷ l) more (inl here) = inl here
release_before sum (sent ∷ l) more (inr later) = inr (release_before sum l more later)

-- more waits
follows_more : (x y : End) (waits more : List Sent) → Follows x y waits → Follows x y (waits ++ more)
follows_more x y waits more (left, inl too) = (left, inl too)
follows_more x y waits more (left, inr f) = (left, inr (record { o = f.o; stage = f.stage; sum = f.sum; fine = f.fine; release = release_before f.sum waits more f.release }))

-- the second takes what waits first
follows_takes : (x y : End) (now : ℕ) (sent : Sent) (rest : List Sent) → Follows x y (sent ∷ rest) → Follows x (end_of (stepped whole now y (Took sent.tpdu sent.sum))) rest
follows_takes x y now sent rest (left, inl too) = (left, inl (stays_left now y (Took sent.tpdu sent.sum) too))
follows_takes x y now sent rest (left, inr f) = (left, by f.release)
  where
    m : Moved
    m = stepped whole now y (Took sent.tpdu sent.sum)

    row : OpenRow y.base m
    row = subst (λ (stage : StateData). OpenRow y.base (takes whole now y.base stage sent.tpdu sent.sum)) (sym f.stage) (takes_row now y.base f.o sent.tpdu sent.sum)

    by : HasRelease f.sum (sent ∷ rest) → HasLeft m.stage ⊎ IsFollowing (end_of m) rest
    by (inl here) = inl (subst (λ (stage : StateData). HasLeft (takes whole now y.base stage sent.tpdu sent.sum).stage) (sym f.stage) (release_leaves now y.base f.o sent.tpdu f.sum sent.sum f.fine here))
    by (inr later) = elim row [
      | inl gone ↦ inl gone
      | inr r ↦ inr (record { o = r.0; stage = r.1; sum = f.sum; fine = ap (λ (a : _). sum_agreed a && not f.sum) r.2 ∙ f.fine; release = later })
    ]

follows_left : (x y : End) → Follows x y [] → HasLeft x.stage × HasLeft y.stage
follows_left x y (left, inl too) = (left, too)
follows_left x y (left, inr f) = absurd f.release

pub both_left : (p : Pair) → IsIdle p → AreParting p → AreBothLeft p
both_left p idle (inl f) = follows_left p.calling p.called (subst (Follows p.calling p.called) idle.forth f)
both_left p idle (inr f) = let b = follows_left p.called p.calling (subst (Follows p.called p.calling) idle.back f) in (b.1, b.0)

forth_parting : (p : Pair) (l : List Sent) → p.forth ≡ l → AreParting p → AreParting (comes_forth p l)
forth_parting p [] e f = f
forth_parting p (sent ∷ rest) e (inl f) = inl (follows_takes p.calling p.called p.clock sent rest (subst (Follows p.calling p.called) e f))
forth_parting p (sent ∷ rest) e (inr f) =
    let m : Moved = stepped whole p.clock p.called (Took sent.tpdu sent.sum) in
    let more = follows_more p.called p.calling p.back m.tpdus f in
    inr (stays_left p.clock p.called (Took sent.tpdu sent.sum) f.0, more.1)

back_parting : (p : Pair) (l : List Sent) → p.back ≡ l → AreParting p → AreParting (comes_back p l)
back_parting p [] e f = f
back_parting p (sent ∷ rest) e (inr f) = inr (follows_takes p.called p.calling p.clock sent rest (subst (Follows p.called p.calling) e f))
back_parting p (sent ∷ rest) e (inl f) =
    let m : Moved = stepped whole p.clock p.calling (Took sent.tpdu sent.sum) in
    let more = follows_more p.calling p.called p.forth m.tpdus f in
    inl (stays_left p.clock p.calling (Took sent.tpdu sent.sum) f.0, more.1)

parting_on : (p : Pair) (happening : Happening) → May p happening → AreParting p → AreParting (next p happening)
parting_on p Comes_forth may f = forth_parting p p.forth refl f
parting_on p Comes_back may f = back_parting p p.back refl f
parting_on p (Asks_calling call) may f = let b = both_left p may.0 f in inl (stays_left p.clock p.calling (Called call) b.0, inl b.1)
parting_on p (Asks_called call) may f = let b = both_left p may.0 f in inl (b.0, inl (stays_left p.clock p.called (Called call) b.1))
parting_on p (Clock calling called) may f = let b = both_left p may f in inl (tick_left calling (p.clock + 1) p.calling b.0, inl (tick_left called (p.clock + 1) p.called b.1))

pub parting_after : (old new : Pair) (happenings : List Happening) → AreParting old → Leads old happenings new → AreParting new
parting_after old new [] f l = subst AreParting (sym l) f
parting_after old new (happening ∷ happenings) f l = parting_after (next old happening) new happenings (parting_on old happening l.0 f) l.1
