-- What a sending half tried stands on the road, as it sends, sends again, and hears of what came.
use Rattle.std.proofs.Common.{◌≡◌, inl, inr, ℕ, zero, suc, ◌+◌, Bool, true, false, if◌then◌else◌, List, [], ◌∷◌, ◌++◌, take, drop, length, sym, subst, arith, add-zero, append-nil, Contains}
use Rattle.std.proofs.lemmas.List.Elements.{Contains-append_left, Contains-append_right, Contains-append_cases, Contains-push}
use Rattle.tp4_number.specs.Formats.{block_of}
use Rattle.tp4_number.specs.Sender.{Sender, marked}
use Rattle.law_recovery_pair.specs.Recovering.{Moves, Resends}
use Rattle.law_recovery_pair.proofs.Keeping.{later_too}
use Rattle.tp4_flow.specs.ReceivingHalf.{Half}
use Rattle.tp4_flow.specs.declared.rules.FlowRules.{FlowRules}
use Rattle.tp4_sending.specs.SendingHalf.{marked_all}
use Rattle.tp4_sending.specs.Pieces.{again, due_from, is_due, once, resent}
use Rattle.tp4_sending.specs.declared.tries.Tries.{Tries}
use Rattle.law_recovery_pair.specs.Riding.{Aside, GoesOn, road_of, rules_by, sent_aside, sent_at}
use Rattle.law_recovery_pair.proofs.RidingSends.{AreWithin, regroup}
use Rattle.law_recovery_ends.specs.Due.{AreTried}

module _ (u : ℕ) where
  -- more was sent
  pub tried_into : (n : ℕ) (window : List Tries) (sends more : List (ℕ × ℕ)) → ((e : ℕ × ℕ) → Contains sends e → Contains more e) → AreTried u n window sends → AreTried u n window more
  tried_into n [] sends more into t = tt
  tried_into n (tries ∷ window) sends more into t = (elim t.0 [ inl old ↦ inl old | inr there ↦ inr (into (n, tries.last) there) ], tried_into (n + 1) window sends more into t.1)

  pub tried_push : (n now next : ℕ) (window : List Tries) (sends : List (ℕ × ℕ)) → length window + n ≡ next → AreTried u n window sends → AreTried u n (window ++ once now ∷ []) (sends ++ (next, now) ∷ [])
  tried_push n now next [] sends e t =
      let is : next ≡ n = omega (arith, e) in
      (inr (subst (λ (k : ℕ). Contains (sends ++ (next, now) ∷ []) (k, now)) is (Contains-push sends (next, now))), tt)
  tried_push n now next (tries ∷ window) sends e t =
      (elim t.0 [ inl old ↦ inl old | inr there ↦ inr (Contains-append_left sends _ _ there) ], tried_push (n + 1) now next window sends (omega (arith, e)) t.1)

  -- what is due is sent again now
  pub tried_again : (t1 now n : ℕ) (window : List Tries) (sends : List (ℕ × ℕ)) → AreTried u n window sends → AreTried u n (resent t1 now window) (sends ++ sent_at now (due_from t1 now n window))
  tried_again t1 now n [] sends t = tt
  tried_again t1 now n (tries ∷ window) sends t = by (is_due t1 now tries) (tried_again t1 now (n + 1) window sends t.1)
    where
      rest : List ℕ
      rest = due_from t1 now (n + 1) window

      by : (b : Bool) → AreTried u (n + 1) (resent t1 now window) (sends ++ sent_at now rest) → AreTried u n ((if b then again now tries else tries) ∷ resent t1 now window) (sends ++ sent_at now (if b then n ∷ rest else rest))
      by true later = (
        inr (Contains-append_right sends ((n, now) ∷ sent_at now rest) (n, now) (Contains-append_left ((n, now) ∷ []) (sent_at now rest) (n, now) (Contains-push [] (n, now)))),
        tried_into (n + 1) (resent t1 now window) (sends ++ sent_at now rest) (sends ++ (n, now) ∷ sent_at now rest)
            (λ e c. elim (Contains-append_cases sends (sent_at now rest) e c) [
              | inl before ↦ Contains-append_left sends ((n, now) ∷ sent_at now rest) e before
              | inr here ↦ Contains-append_right sends ((n, now) ∷ sent_at now rest) e (later_too (n, now) e (sent_at now rest) here)
            ]) later,
      )
      by false later = (elim t.0 [ inl old ↦ inl old | inr there ↦ inr (Contains-append_left sends _ _ there) ], later)

  pub tried_drop : (k n : ℕ) (window : List Tries) (sends : List (ℕ × ℕ)) → AreTried u n window sends → AreTried u (n + k) (drop k window) sends
  tried_drop zero n window sends t = subst (λ (m : ℕ). AreTried u m window sends) (sym (add-zero n)) t
  tried_drop (suc k) n [] sends t = tt
  tried_drop (suc k) n (tries ∷ window) sends t =
      let e : n + 1 + k ≡ n + suc k = omega arith in
      subst (λ (m : ℕ). AreTried u m (drop k window) sends) e (tried_drop k (n + 1) window sends t.1)

  pub tried_take : (k n : ℕ) (window : List Tries) (sends : List (ℕ × ℕ)) → AreTried u n window sends → AreTried u n (take k window) sends
  tried_take zero n window sends t = tt
  tried_take (suc k) n [] sends t = tt
  tried_take (suc k) n (tries ∷ window) sends t = (t.0, tried_take k (n + 1) window sends t.1)

-- what is due is sent again by moves of the road
module _ (life size u : ℕ) where
  pub again_goes : (f : FlowRules) (now : ℕ) (ns : List ℕ) (numbers : Sender) (h : Half) (x : Aside) → AreWithin numbers.base numbers.next ns
      → GoesOn (rules_by life f) size u (road_of now numbers h x) (road_of now (record numbers { blocks = marked_all (block_of f.format) now numbers.blocks ns }) h (sent_aside x (sent_at now ns)))
  again_goes f now [] numbers h x within = record { moves = []; are = λ i. road_of now numbers h (record x { sends = append-nil x.sends i; dts = append-nil x.dts i }) }
  again_goes f now (n ∷ ns) numbers h x within =
      let first : Sender = record numbers { blocks = marked (block_of f.format) numbers.blocks n now } in
      let c = again_goes f now ns first h (sent_aside x ((n, now) ∷ [])) within.2 in
      record {
        moves = Resends n ∷ c.moves;
        are = (
          (within.0, within.1),
          subst (λ (k : Aside). Moves (rules_by life f) size u (road_of now first h (sent_aside x ((n, now) ∷ []))) c.moves (road_of now (record first { blocks = marked_all (block_of f.format) now first.blocks ns }) h k))
              (regroup x ((n, now) ∷ []) (sent_at now ns)) c.are,
        );
      }
