-- The calls of a sending half are happenings of its line: a unit is submitted, an AK or an EA comes, and then what may go goes.
use Rattle.std.proofs.Common.{◌≡◌, ℕ, ◌+◌, ◌-◌, ◌<◌, ◌==◌, ◌&&◌, nat_lt, nat_le, min, max, Bool, true, false, if◌then◌else◌, List, [], ◌∷◌, ◌++◌, length, take, drop, length-drop, Option, Some, None, refl, sym, ◌∙◌, ap, subst, arith, append-nil, append_assoc, length-append, inl, inr}
use Rattle.std.specs.Prelude.{is_some}
use Rattle.std.proofs.lemmas.Bool.{true≢false, and_parts, and_cases, and_left, and_right, and_from, lt-ltb, le-ltb, ltb-false, leb-false, eq-eqb, eqb-true, eqb-false, ne_eqb}
use Rattle.std.proofs.lemmas.List.{length-take}
use Rattle.std.proofs.lemmas.List.Sums.{sum_by-append}
use Rattle.script_journal.specs.Lawful.{Marked, Normal, Expedited, normals, expediteds}
use Rattle.tp4_number.specs.Number.{wire, near}
use Rattle.tp4_number.specs.Sender.{Sender, told, is_newer}
use Rattle.tp4_number.specs.Traffic.{Answer, Ak_comes, Open}
use Rattle.tp4_number.specs.Expedited.{Ea_comes}
use Rattle.tp4_number.proofs.Past.{if_kept}
use Rattle.tp4_sending.specs.SendingHalf.{FlowSender, Sendings, block_in, new_sends, opened, submitted, urged, is_taken, acknowledged_to, acknowledged, is_outstanding, urgent_done}
use Rattle.tp4_sending.specs.Kept.{urgent_base}
use Rattle.tp4_sending.specs.Pieces.{count_in, freed}
use Rattle.tp4_sending.specs.declared.tries.Tries.{Tries}
use Rattle.tp4_sending.proofs.Advances.{advanced_is, taken_from}
use Rattle.tp4_sending.proofs.Frees.{freed_left}
use Rattle.law_tp4_history.specs.Ends.{Offer, Flow, Ak, Ea}
use Rattle.law_tp4_history.specs.Line.{Line, Submit, Flows, Expedites}
use Rattle.law_tp4_history.specs.Tracks.{Track}
use Rattle.law_tp4_history.proofs.FlowOut.{Around, line_at, Fits, Goes, goes_by, then_goes}
use Rattle.law_tp4_history.proofs.FlowSends.{new_goes}
use Rattle.law_tp4_history.proofs.Marks.{normals-append, expediteds-append}
use Rattle.law_tp4_history.proofs.FlowUnits.{freed_front}

-- the half after it, with nothing told or sent
abbrev quietly : FlowSender → Sendings
quietly s = record { sender = s; events = []; tpdus = [] }

module _ (t : Track) (begun : t.is_begun ≡ true) (life : ℕ) (taken : Option Offer) where
  -- one happening, and then what may go
  then_new : (s new : FlowSender) (a : Around) (given : List Marked) → Goes t life taken s a (quietly new) given → Goes t life taken s a (new_sends new) given
  then_new s new a given g = subst (Goes t life taken s a (new_sends new)) (append-nil given)
      (then_goes t life taken s a (quietly new) given [] new_sends g (λ b f. new_goes t begun life taken new b f))

  pub submit_goes : (s : FlowSender) (a : Around) (unit : List ℕ) → Fits s a → 0 < length unit → Goes t life taken s a (submitted s unit) (Normal unit ∷ [])
  submit_goes s a unit f some = then_new s (record s { queue = record s.queue { units = s.queue.units ++ unit ∷ [] } }) a (Normal unit ∷ [])
      (goes_by t life taken s a (record a { submitted = a.submitted ++ Normal unit ∷ [] }) (record s { queue = record s.queue { units = s.queue.units ++ unit ∷ [] } }) []
      (Submit (Normal unit) ∷ []) (Normal unit ∷ []) (some, refl) (record {
        window = f.window;
        first = f.first;
        acknowledged = f.acknowledged;
        normal = normals-append a.submitted (Normal unit ∷ []) ∙ ap (λ (us : List (List ℕ)). us ++ unit ∷ []) f.normal ∙ append_assoc f.acknowledged s.queue.units (unit ∷ []);
        pieces = f.pieces;
        base = f.base;
        answered = f.answered;
        expedited = same ∙ f.expedited;
        answers = f.answers;
        sent = omega (arith, f.sent, ap length same);
      }) refl refl refl refl)
    where
      same : expediteds (a.submitted ++ Normal unit ∷ []) ≡ expediteds a.submitted
      same = expediteds-append a.submitted (Normal unit ∷ []) ∙ append-nil (expediteds a.submitted)

  pub urge_goes : (s : FlowSender) (a : Around) (unit : List ℕ) → Fits s a → Goes t life taken s a (urged s unit) (Expedited unit ∷ [])
  urge_goes s a unit f = then_new s (record s { urgent = record s.urgent { units = s.urgent.units ++ unit ∷ [] } }) a (Expedited unit ∷ [])
      (goes_by t life taken s a (record a { submitted = a.submitted ++ Expedited unit ∷ [] }) (record s { urgent = record s.urgent { units = s.urgent.units ++ unit ∷ [] } }) []
      (Submit (Expedited unit) ∷ []) (Expedited unit ∷ []) (record {}, refl) (record {
        window = f.window;
        first = f.first;
        acknowledged = f.acknowledged;
        normal = normals-append a.submitted (Expedited unit ∷ []) ∙ append-nil (normals a.submitted) ∙ f.normal;
        pieces = f.pieces;
        base = urgent_same s.urgent.out f.base;
        answered = f.answered;
        expedited = same ∙ ap (λ (us : List (List ℕ)). us ++ unit ∷ []) f.expedited ∙ append_assoc f.answered s.urgent.units (unit ∷ []);
        answers = f.answers;
        sent = omega (arith, f.sent, ap length same, length-append (expediteds a.submitted) (unit ∷ []));
      }) refl refl refl refl)
    where
      same : expediteds (a.submitted ++ Expedited unit ∷ []) ≡ expediteds a.submitted ++ unit ∷ []
      same = expediteds-append a.submitted (Expedited unit ∷ [])

      urgent_same : (out : Option Tries) → urgent_base s.urgent out a.base → urgent_base (record s.urgent { units = s.urgent.units ++ unit ∷ [] }) out a.base
      urgent_same None b = b
      urgent_same (Some tries) b = b

  pub open_goes : (s : FlowSender) (a : Around) → Fits s a → Goes t life taken s a (opened s) []
  open_goes s a f =
      then_new s (record s { is_open = true }) a []
      (goes_by t life taken s a a (record s { is_open = true }) [] [] [] refl f refl refl (sym (append-nil a.submitted)) refl)

  -- an AK that is not taken changes nothing
  not_told : (s : Sender) (n credit subsequence : ℕ) → (nat_le n s.blocks.high && is_newer s n credit subsequence) ≡ false → told s n credit subsequence ≡ s
  not_told s n credit subsequence old =
      if_kept (λ (x : Sender). x ≡ s) (nat_lt s.blocks.high n) _ _
      (λ _. refl)
      (λ low. if_kept (λ (x : Sender). x ≡ s) (is_newer s n credit subsequence) _ _
      (λ newer. elim (and_cases (nat_le n s.blocks.high) (is_newer s n credit subsequence) old) [
        | inl high ↦ absurd (omega (arith, leb-false n s.blocks.high high, ltb-false s.blocks.high n low))
        | inr older ↦ absurd (true≢false (sym newer ∙ older))
      ])
      (λ _. refl))

  ak_taken : (s : FlowSender) (a : Around) (n credit subsequence : ℕ) → Fits s a → is_taken s n credit subsequence ≡ true → Fits (acknowledged_to s n credit subsequence) a
  ak_taken s a n credit subsequence f new =
      let low = taken_from s n credit subsequence new in
      let free = freed_front s.rules.piece n s.queue.first s.queue.units in
      let left = freed_left s.rules.piece n s.queue.first s.queue.units (omega (arith, f.first, low.0)) in
      let window = drop (n - s.numbers.base) s.window in
      subst (λ (x : FlowSender). Fits x a) (advanced_is s n credit subsequence new) (record {
        window = omega (arith, length-take (max n (min s.numbers.next (n + credit)) - n) window, length-drop (n - s.numbers.base) s.window, f.window, low.0);
        first = left.first;
        acknowledged = f.acknowledged ++ free.gone;
        normal = f.normal ∙ ap (λ (us : List (List ℕ)). f.acknowledged ++ us) free.units_are ∙ sym (append_assoc f.acknowledged free.gone (freed s.rules.piece n s.queue).units);
        pieces = omega (arith, f.pieces, free.first_is, sum_by-append (count_in s.rules.piece) f.acknowledged free.gone);
        base = f.base;
        answered = f.answered;
        expedited = f.expedited;
        answers = f.answers;
        sent = f.sent;
      })

  pub ak_goes : (s : FlowSender) (a : Around) (m credit subsequence : ℕ) (o : Offer) → Fits s a → taken ≡ Some o → o.tpdu.kind ≡ Flow → o.tpdu.body ≡ Ak m credit subsequence
      → Goes t life taken s a (acknowledged s (wire (block_in s) m) credit subsequence) []
  ak_goes s a m credit subsequence o f is kind body =
      if_kept (λ (x : Sendings). Goes t life taken s a x []) (is_taken s n credit subsequence) _ _
      (λ new. then_new s (acknowledged_to s n credit subsequence) a []
      (goes_by t life taken s a b (acknowledged_to s n credit subsequence) [] (Flows (Ak_comes answer) ∷ []) [] ((o, is, kind, body, refl), refl)
      (ak_taken s a n credit subsequence f new) refl refl (sym (append-nil a.submitted)) refl))
      (λ old. goes_by t life taken s a b s [] (Flows (Ak_comes answer) ∷ []) []
      ((o, is, kind, body, refl), λ i. record (line_at s b) { world = record (line_at s b).world { sender = sym (not_told s.numbers n credit subsequence old) i } })
      f refl refl (sym (append-nil a.submitted)) refl)
    where
      n : ℕ
      n = near (block_in s) s.numbers.base (wire (block_in s) m)

      answer : Answer
      answer = record { number = m; credit = credit; subsequence = subsequence; tick = o.tick }

      b : Around
      b = record a { shown = a.shown ++ [] }

  -- an EA that is for the ED outstanding, and one that is not
  done_base : (s : FlowSender) (out : Option Tries) (base : ℕ) → is_some out ≡ true → urgent_base s.urgent out base → base + 1 ≡ s.urgent.next
  done_base s None base some b = absurd (cc some)
  done_base s (Some tries) base some b = b

  not_done : (s : FlowSender) (out : Option Tries) (base n : ℕ) → urgent_base s.urgent out base → (is_some out && (wire (block_in s) (s.urgent.next - 1) == wire (block_in s) n)) ≡ false
      → (nat_lt base s.urgent.next && (wire (block_in s) n == wire (block_in s) base)) ≡ false
  not_done s None base n b e = and_left _ _ (le-ltb base s.urgent.next (omega (arith, b)))
  not_done s (Some tries) base n b e =
      let at : s.urgent.next - 1 ≡ base = omega (arith, b) in
      and_right _ _ (ne_eqb _ _ (λ (same : wire (block_in s) n ≡ wire (block_in s) base). eqb-false _ _ e (ap (wire (block_in s)) at ∙ sym same)))

  first_gone : (units answered : List (List ℕ)) → 0 < length units → (answered ++ take 1 units) ++ drop 1 units ≡ answered ++ units
  first_gone [] answered some = absurd (omega (arith, some))
  first_gone (unit ∷ units) answered some = append_assoc answered (unit ∷ []) units

  first_count : (units : List (List ℕ)) → 0 < length units → length (take 1 units) ≡ 1
  first_count [] some = absurd (omega (arith, some))
  first_count (unit ∷ units) some = refl

  -- the line after an EA, by whether it is for the ED outstanding
  abbrev after : FlowSender → Around → Bool → Line
  after s a c = record (line_at s a) { urgent = if c then record (line_at s a).urgent { base = a.base + 1 } else (line_at s a).urgent; shown = a.shown ++ [] }

  tested : (s : FlowSender) (a : Around) (is test : Bool) → test ≡ is → after s a is ≡ after s a test
  tested s a is test e = ap (after s a) (sym e)

  pub ea_goes : (s : FlowSender) (a : Around) (m : ℕ) (o : Offer) → Fits s a → taken ≡ Some o → o.tpdu.kind ≡ Flow → o.tpdu.body ≡ Ea m
      → Goes t life taken s a (urgent_done s (wire (block_in s) m)) []
  ea_goes s a m o f is kind body =
      if_kept (λ (x : Sendings). Goes t life taken s a x []) (is_outstanding s (wire (block_in s) m)) _ _
      (λ done.
      let both = and_parts (is_some s.urgent.out) (wire (block_in s) (s.urgent.next - 1) == wire (block_in s) m) done in
      let at = done_base s s.urgent.out a.base both.0 f.base in
      let some : 0 < length s.urgent.units = omega (arith, at, f.sent, ap length f.expedited, length-append f.answered s.urgent.units, f.answers) in
      let before : s.urgent.next - 1 ≡ a.base = omega (arith, at) in
      let test : (nat_lt a.base s.urgent.next && (wire (block_in s) m == wire (block_in s) a.base)) ≡ true =
      and_from _ _ (lt-ltb a.base s.urgent.next (omega (arith, at))) (eq-eqb _ _ (sym (eqb-true _ _ both.1) ∙ ap (wire (block_in s)) before)) in
      let x : FlowSender = record s { urgent = record s.urgent { units = drop 1 s.urgent.units; out = None } } in
      then_new s x a []
      (goes_by t life taken s a (record a { base = a.base + 1; shown = a.shown ++ [] }) x [] (Expedites (Ea_comes m o.tick) ∷ []) []
      ((o, is, kind, body, refl), tested s a true (nat_lt a.base s.urgent.next && (wire (block_in s) m == wire (block_in s) a.base)) test) (record {
        window = f.window;
        first = f.first;
        acknowledged = f.acknowledged;
        normal = f.normal;
        pieces = f.pieces;
        base = at;
        answered = f.answered ++ take 1 s.urgent.units;
        expedited = f.expedited ∙ sym (first_gone s.urgent.units f.answered some);
        answers = omega (arith, f.answers, length-append f.answered (take 1 s.urgent.units), first_count s.urgent.units some);
        sent = f.sent;
      }) refl refl (sym (append-nil a.submitted)) refl))
      (λ other. goes_by t life taken s a (record a { shown = a.shown ++ [] }) s [] (Expedites (Ea_comes m o.tick) ∷ []) []
      ((o, is, kind, body, refl), tested s a false (nat_lt a.base s.urgent.next && (wire (block_in s) m == wire (block_in s) a.base)) (not_done s s.urgent.out a.base m f.base other))
      f refl refl (sym (append-nil a.submitted)) refl)

  -- the credit of a CC
  credit_goes : (s : FlowSender) (a : Around) (credit : ℕ) → Fits s a → s.numbers.blocks.high ≡ 0 → credit < block_in s
      → Goes t life taken s a (quietly (record s { numbers = record s.numbers { credit = credit } })) []
  credit_goes s a credit f none low =
      goes_by t life taken s a (record a { shown = a.shown ++ [] }) (record s { numbers = record s.numbers { credit = credit } }) [] (Flows (Open credit) ∷ []) []
      ((none, low), refl) f refl refl (sym (append-nil a.submitted)) refl

  -- and all that may go then
  pub credit_opens : (s : FlowSender) (a : Around) (credit : ℕ) → Fits s a → s.numbers.blocks.high ≡ 0 → credit < block_in s
      → Goes t life taken s a (opened (record s { numbers = record s.numbers { credit = credit } })) []
  credit_opens s a credit f none low =
      then_goes t life taken s a (quietly (record s { numbers = record s.numbers { credit = credit } })) [] [] opened (credit_goes s a credit f none low)
      (λ b g. open_goes (record s { numbers = record s.numbers { credit = credit } }) b g)
