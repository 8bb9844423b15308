-- Two queues with a relay between them are one queue.
use Rattle.std.proofs.Common.{◌≡◌, ℕ, ◌+◌, ◌<◌, ◌≤◌, List, [], ◌∷◌, ◌++◌, length, get_or, Some, refl, sym, ◌∙◌, ap, subst, arith, append_assoc, length-append}
use Rattle.std.specs.Prelude.{slice_get}
use Rattle.std.specs.List.{Contains}
use Rattle.script_journal.specs.declared.event.Event.{Event}
use Rattle.script_journal.specs.declared.event.Event.TheVariants.{Joined}
use Rattle.script_journal.specs.Lawful.{AreQueues, IsFront, IsQueue, Marked, Normal, Expedited, befores, expediteds, normals, shown, submitted}
use Rattle.script_journal.specs.Partner.{AreEnds}
use Rattle.law_relay.specs.Through.{IsMarkedFront, IsCalled, IsThrough, Relays}
use Rattle.law_tp4_history.proofs.Marks.{befores_kept, expediteds-append, normals-append}

-- what is a front of a front is one
front_on : (first second third : List (List ℕ)) → IsFront first second → IsFront second third → IsFront first third
front_on first second third a b =
    (a.0 ++ b.0, b.1 ∙ ap (λ (us : List (List ℕ)). us ++ b.0) a.1 ∙ append_assoc first a.0 b.0)

front_normals : (front all : List Marked) → IsMarkedFront front all → IsFront (normals front) (normals all)
front_normals front all f = (normals f.0, ap normals f.1 ∙ normals-append front f.0)

front_expediteds : (front all : List Marked) → IsMarkedFront front all → IsFront (expediteds front) (expediteds all)
front_expediteds front all f = (expediteds f.0, ap expediteds f.1 ∙ expediteds-append front f.0)

front_length : (front all : List (List ℕ)) (k : ℕ) → IsFront front all → k < length front → k < length all
front_length front all k f low = omega (arith, low, ap length f.1, length-append front f.0)

-- what was given was got in that order, then given again from the front, and got in that order
pub chained : (given got again seen : List Marked) → IsQueue given got → IsMarkedFront again got → IsQueue again seen → IsQueue given seen
chained given got again seen first relayed second = record {
  normal = front_on (normals seen) (normals again) (normals given) second.normal (front_on (normals again) (normals got) (normals given) (front_normals again got relayed) first.normal);
  expedited = front_on (expediteds seen) (expediteds again) (expediteds given) second.expedited (front_on (expediteds again) (expediteds got) (expediteds given) (front_expediteds again got relayed) first.expedited);
  order = λ k low.
      (let there : k < length (normals again) = front_length (normals seen) (normals again) k second.normal low in
      let more : k < length (normals got) = front_length (normals again) (normals got) k (front_normals again got relayed) there in
      let same : get_or (befores 0 got) k 0 ≡ get_or (befores 0 again) k 0 = ap (λ (us : List Marked). get_or (befores 0 us) k 0) relayed.1 ∙ befores_kept again relayed.0 k there in
      omega (arith, second.order k low, first.order k more, same));
}

none_before : {A : Type 0} (front back : List A) → [] ≡ front ++ back → front ≡ []
none_before [] back is = refl
none_before (x ∷ front) back is = absurd (cc)

none_normals : (units : List Marked) → normals units ≡ [] → expediteds units ≡ [] → units ≡ []
none_normals [] a b = refl
none_normals (Normal octets ∷ units) a b = absurd (cc)
none_normals (Expedited octets ∷ units) a b = absurd (cc)

-- where nothing was given nothing is seen
none_seen : (given seen : List Marked) → IsQueue given seen → given ≡ [] → seen ≡ []
none_seen given seen q none =
    none_normals seen
    (none_before (normals seen) q.normal.0 (sym (ap normals none) ∙ q.normal.1))
    (none_before (expediteds seen) q.expedited.0 (sym (ap expediteds none) ∙ q.expedited.1))

module _ (titles : List (List ℕ)) (journal : List Event) (lawful : AreQueues titles journal) (relays : Relays journal) where
  -- an indication has a partner, so the one that was called is not without
  has_calling : (i : ℕ) → IsCalled journal i → ((a : ℕ) → AreEnds journal a i → ⊥) → ⊥
  has_calling i called none =
      let has = lawful.some called.p called.heard called.is in
      none has.asked.end (record { p = called.p; q = has.q; heard = called.heard; asked = has.asked; partner = has.partner; calling_is = refl; called_is = called.end_is })

  none_given : (i o : ℕ) → Contains journal (Joined i o) → ((b : ℕ) → AreEnds journal o b → ⊥) → submitted i journal ≡ []
  none_given i o joined none =
      let nothing : shown o journal ≡ [] = lawful.none o none (λ other ends. relays.calls i o other joined ends) in
      let f = relays.units.back i o joined in
      none_before (submitted i journal) f.0 (sym nothing ∙ f.1)

  pub goes_through : IsThrough journal
  goes_through = record {
    once = relays.once;
    on = λ i o a b joined first second.
        chained (submitted a journal) (shown i journal) (submitted o journal) (shown b journal) (lawful.there a i first) (relays.units.on i o joined) (lawful.there o b second);
    back = λ i o a b joined first second.
        chained (submitted b journal) (shown o journal) (submitted i journal) (shown a journal) (lawful.back o b second) (relays.units.back i o joined) (lawful.back a i first);
    none_on = λ i o b joined none second. absurd (has_calling i (relays.called i o joined) none);
    none_back = λ i o a joined first none. none_seen (submitted i journal) (shown a journal) (lawful.back a i first) (none_given i o joined none);
  }
