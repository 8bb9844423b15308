-- The new sends of a sending half are happenings of its line: an ED where none is outstanding, then DTs where none waits.
use Rattle.std.proofs.Common.{◌≡◌, ℕ, zero, suc, ◌+◌, ◌-◌, ◌<◌, ◌≤◌, ◌==◌, ◌||◌, nat_lt, true, false, List, [], ◌∷◌, ◌++◌, length, get_or, Option, Some, None, refl, sym, ◌∙◌, ap, arith, append-nil, length-append, Contains}
use Rattle.std.specs.Prelude.{not, is_some}
use Rattle.std.proofs.Math.Seq.{get_or-append_seam}
use Rattle.std.proofs.lemmas.Bool.{and_parts, or_parts, ltb-true, eqb-true, eqb-false, not-false}
use Rattle.std.proofs.lemmas.List.Elements.{Contains-push}
use Rattle.tpdu.specs.declared.service.HeldKind.TheVariants.{Dt, Ed}
use Rattle.tp4_number.specs.declared.piece.Piece.{Piece}
use Rattle.tp4_number.proofs.Past.{if_kept}
use Rattle.tp4_number.specs.Traffic.{Send}
use Rattle.tp4_number.specs.Expedited.{Sends_ed}
use Rattle.script_journal.specs.Lawful.{normals as normals_of, expediteds}
use Rattle.tp4_sending.specs.SendingHalf.{FlowSender, Sendings, rule_allows, dts, dts_of, eds, is_noted, holds, sent_urgent, one_urgent, sent_normal, one_normal, held_normal, has_next, normals, is_urgent, normals_where, new_sends}
use Rattle.tp4_sending.specs.Kept.{urgent_base}
use Rattle.tp4_sending.specs.Pieces.{cut_at, end_of, once}
use Rattle.tp4_sending.specs.declared.tries.Tries.{Tries}
use Rattle.tp4_sending.proofs.Goings.{piece_there}
use Rattle.law_tp4_history.specs.Ends.{Offer}
use Rattle.law_tp4_history.specs.Line.{Flows, Expedites}
use Rattle.law_tp4_history.specs.Tracks.{Track}
use Rattle.law_tp4_history.specs.Lines.{AreSentIn}
use Rattle.law_tp4_history.proofs.FlowLines.{at_line}
use Rattle.law_tp4_history.proofs.FlowOut.{Around, line_at, track_at, Fits, Goes, goes_by, goes_nothing, of_urgent, of_window, then_goes}
use Rattle.law_tp4_history.proofs.FlowUnits.{cut_behind}

-- the piece of a number of the half is that of all units
pub piece_of_all : (s : FlowSender) (a : Around) (n : ℕ) → Fits s a → s.queue.first ≤ n → cut_at s.rules.piece (normals_of a.submitted) n ≡ cut_at s.rules.piece s.queue.units (n - s.queue.first)
piece_of_all s a n f low =
    ap (λ (us : List (List ℕ)). cut_at s.rules.piece us n) f.normal
    ∙ cut_behind s.rules.piece f.acknowledged s.queue.units n (omega (arith, low, f.pieces))
    ∙ ap (λ (k : ℕ). cut_at s.rules.piece s.queue.units (n - k)) (sym f.pieces)

-- with none outstanding the first one without its EA is the next
base_next : (s : FlowSender) (out : Option Tries) (base : ℕ) → is_some out ≡ false → urgent_base s.urgent out base → base ≡ s.urgent.next
base_next s None base none b = b
base_next s (Some tries) base none b = absurd (cc none)

none_left : (units : List (List ℕ)) → (length units == 0) ≡ true → length units ≡ 0
none_left units e = eqb-true (length units) 0 e

module _ (t : Track) (begun : t.is_begun ≡ true) (life : ℕ) (taken : Option Offer) where
  -- a DT and an ED that stand in a line
  pub dt_sent_in : (s : FlowSender) (a b : Around) (x : FlowSender) (n : ℕ) (theirs : Track) → Contains b.sends (n, s.clock)
      → cut_at s.rules.piece (normals_of b.submitted) n ≡ cut_at s.rules.piece s.queue.units (n - s.queue.first)
      → AreSentIn (at_line (track_at t life s.rules) (line_at x b)) theirs s.clock (dts_of s n)
  dt_sent_in s a b x n theirs there same = by (cut_at s.rules.piece s.queue.units (n - s.queue.first)) same
    where
      by : (piece : Option Piece) → cut_at s.rules.piece (normals_of b.submitted) n ≡ piece
          → AreSentIn (at_line (track_at t life s.rules) (line_at x b)) theirs s.clock (dts s n piece)
      by None e = tt
      by (Some piece) e = (record { n = n; numbered = refl; stands = (begun, there, e) }, tt)

  pub ed_sent_in : (s : FlowSender) (b : Around) (x : FlowSender) (n : ℕ) (units answered : List (List ℕ)) (theirs : Track) → Contains b.eds (n, s.clock)
      → expediteds b.submitted ≡ answered ++ units → length answered ≡ n
      → AreSentIn (at_line (track_at t life s.rules) (line_at x b)) theirs s.clock (eds s n units)
  ed_sent_in s b x n [] answered theirs there all at = tt
  ed_sent_in s b x n (unit ∷ units) answered theirs there all at = (
    record {
      n = n;
      numbered = refl;
      stands = (
        begun,
        there,
        omega (arith, ap length all, length-append answered (unit ∷ units), at),
        sym (ap (λ (us : List (List ℕ)). get_or us n []) all ∙ ap (λ (k : ℕ). get_or (answered ++ unit ∷ units) k []) (sym at) ∙ get_or-append_seam answered unit units []),
      );
    },
    tt,
  )

  -- the next DT
  one_goes : (s : FlowSender) (a : Around) → Fits s a → has_next s ≡ true → rule_allows s s.numbers.blocks s.numbers.next ≡ true → is_urgent s ≡ false
      → Goes t life taken s a (one_normal s) []
  one_goes s a f more allowed quiet =
      let both = and_parts (nat_lt s.numbers.next (s.numbers.base + s.numbers.credit)) (nat_lt s.numbers.next (end_of s.rules.piece s.queue)) more in
      let low : s.queue.first ≤ s.numbers.next = omega (arith, f.first, f.window) in
      let same = piece_of_all s a s.numbers.next f low in
      let there : is_some (cut_at s.rules.piece (normals_of a.submitted) s.numbers.next) ≡ true =
      ap is_some same ∙ piece_there s.rules.piece s.queue s.numbers.next low ∙ both.1 in
      let left : length s.urgent.units ≡ 0 = none_left s.urgent.units (not-false (length s.urgent.units == 0) quiet) in
      let all : a.base ≡ length (expediteds a.submitted) = omega (arith, ap length f.expedited, length-append f.answered s.urgent.units, f.answers, left) in
      let b : Around = record a { sends = a.sends ++ (s.numbers.next, s.clock) ∷ []; shown = a.shown ++ [] } in
      record {
        around = b;
        happenings = Flows Send ∷ [];
        runs = (((ltb-true _ _ both.0, allowed), (some_piece (cut_at s.rules.piece (normals_of a.submitted) s.numbers.next) there, all)), refl);
        fits = of_window s (sent_normal s) a f (omega (arith, f.window, length-append s.window (once s.clock ∷ [])));
        rules = refl;
        clock = refl;
        gave = sym (append-nil a.submitted);
        quiet = refl;
        sent = λ theirs. dt_sent_in s a b (sent_normal s) s.numbers.next theirs (Contains-push a.sends (s.numbers.next, s.clock)) same;
      }
    where
      some_piece : (piece : Option Piece) → is_some piece ≡ true → (p : Piece) × (piece ≡ Some p)
      some_piece None e = absurd (cc e)
      some_piece (Some p) e = (p, refl)

  -- what is only told
  noted_goes : (s : FlowSender) (a : Around) (n : ℕ) → Fits s a → Goes t life taken s a (record { sender = record s { noted = Some n }; events = holds s Dt n ∷ []; tpdus = [] }) []
  noted_goes s a n f = goes_by t life taken s a a (record s { noted = Some n }) (holds s Dt n ∷ []) [] [] refl f refl refl (sym (append-nil a.submitted)) refl

  held_goes : (s : FlowSender) (a : Around) → Fits s a → Goes t life taken s a (held_normal s) []
  held_goes s a f = if_kept (λ (x : Sendings). Goes t life taken s a x []) (is_noted s.noted s.numbers.next) _ _ (λ _. goes_nothing t life taken s a f) (λ _. noted_goes s a s.numbers.next f)

  normals_go : (fuel : ℕ) (s : FlowSender) (a : Around) → Fits s a → is_urgent s ≡ false → Goes t life taken s a (normals fuel s) []
  normals_go zero s a f quiet = goes_nothing t life taken s a f
  normals_go (suc fuel) s a f quiet =
      if_kept (λ (x : Sendings). Goes t life taken s a x []) (not (has_next s)) _ _
      (λ _. goes_nothing t life taken s a f)
      (λ more. if_kept (λ (x : Sendings). Goes t life taken s a x []) (rule_allows s s.numbers.blocks s.numbers.next) _ _
      (λ allowed. then_goes t life taken s a (one_normal s) [] [] (normals fuel) (one_goes s a f (not-false (has_next s) more) allowed quiet) (λ b g. normals_go fuel (sent_normal s) b g quiet))
      (λ _. held_goes s a f))

  where_goes : (s : FlowSender) (a : Around) → Fits s a → Goes t life taken s a (normals_where s) []
  where_goes s a f = if_kept (λ (x : Sendings). Goes t life taken s a x []) (is_urgent s) _ _
      (λ _. goes_nothing t life taken s a f)
      (λ quiet. normals_go (end_of s.rules.piece s.queue - s.numbers.next) s a f quiet)

  -- the next ED
  urgent_noted_goes : (s : FlowSender) (a : Around) (n : ℕ) → Fits s a
      → Goes t life taken s a (record { sender = record s { urgent = record s.urgent { noted = Some n } }; events = holds s Ed n ∷ []; tpdus = [] }) []
  urgent_noted_goes s a n f =
      goes_by t life taken s a a (record s { urgent = record s.urgent { noted = Some n } }) (holds s Ed n ∷ []) [] [] refl
      (of_urgent s a (record s.urgent { noted = Some n }) f (urgent_same s.urgent.out f.base) refl f.sent) refl refl (sym (append-nil a.submitted)) refl
    where
      urgent_same : (out : Option Tries) → urgent_base s.urgent out a.base → urgent_base (record s.urgent { noted = Some n }) out a.base
      urgent_same None b = b
      urgent_same (Some tries) b = b

  ed_goes : (s : FlowSender) (a : Around) → Fits s a → is_some s.urgent.out ≡ false → (length s.urgent.units == 0) ≡ false → rule_allows s s.urgent.blocks s.urgent.next ≡ true
      → Goes t life taken s a (record { sender = sent_urgent s; events = []; tpdus = eds s s.urgent.next s.urgent.units }) []
  ed_goes s a f none waits allowed =
      let at : a.base ≡ s.urgent.next = base_next s s.urgent.out a.base none f.base in
      let some : length s.urgent.units ≡ 0 → ⊥ = eqb-false _ _ waits in
      let more : s.urgent.next < length (expediteds a.submitted) = omega (arith, at, some, f.answers, ap length f.expedited, length-append f.answered s.urgent.units) in
      let b : Around = record a { eds = a.eds ++ (s.urgent.next, s.clock) ∷ []; shown = a.shown ++ [] } in
      record {
        around = b;
        happenings = Expedites Sends_ed ∷ [];
        runs = (((sym at, allowed), more), refl);
        fits = of_urgent s a (sent_urgent s).urgent f (ap (λ (k : ℕ). k + 1) at) refl (omega (arith, more));
        rules = refl;
        clock = refl;
        gave = sym (append-nil a.submitted);
        quiet = refl;
        sent = λ theirs. ed_sent_in s b (sent_urgent s) s.urgent.next s.urgent.units f.answered theirs (Contains-push a.eds (s.urgent.next, s.clock)) f.expedited (f.answers ∙ at);
      }

  urgent_goes : (s : FlowSender) (a : Around) → Fits s a → Goes t life taken s a (one_urgent s) []
  urgent_goes s a f = if_kept (λ (x : Sendings). Goes t life taken s a x []) (is_some s.urgent.out || length s.urgent.units == 0) _ _
      (λ _. goes_nothing t life taken s a f)
      (λ free.
      let both = or_parts (is_some s.urgent.out) (length s.urgent.units == 0) free in
      if_kept (λ (x : Sendings). Goes t life taken s a x []) (rule_allows s s.urgent.blocks s.urgent.next) _ _
      (λ allowed. ed_goes s a f both.0 both.1 allowed)
      (λ _. if_kept (λ (x : Sendings). Goes t life taken s a x []) (is_noted s.urgent.noted s.urgent.next) _ _
      (λ _. goes_nothing t life taken s a f)
      (λ _. urgent_noted_goes s a s.urgent.next f)))

  -- all that may go now
  pub new_goes : (s : FlowSender) (a : Around) → Fits s a → Goes t life taken s a (new_sends s) []
  new_goes s a f = if_kept (λ (x : Sendings). Goes t life taken s a x []) s.is_open _ _
      (λ _. then_goes t life taken s a (one_urgent s) [] [] normals_where (urgent_goes s a f) (λ b g. where_goes (one_urgent s).sender b g))
      (λ _. goes_nothing t life taken s a f)
