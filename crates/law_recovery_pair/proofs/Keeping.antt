-- Each move keeps what is known since the tick (`IsRecovering`).
use Rattle.std.proofs.Common.{◌≡◌, ℕ, ◌+◌, ◌<◌, ◌≤◌, ◌⊎◌, inl, inr, true, false, List, [], ◌∷◌, ◌++◌, length, refl, sym, ◌∙◌, ap, subst, arith, Contains}
use Rattle.std.proofs.lemmas.Bool.{cases_lt}
use Rattle.std.proofs.lemmas.List.Elements.{Contains-push_cases, Contains-append_left, Contains-append_cases, Contains-append_right, Contains-push}
use Rattle.tp4_number.specs.Sender.{Sender}
use Rattle.tp4_number.specs.Window.{Held, is_held}
use Rattle.tp4_number.specs.Receiver.{Inbox, Receiver, granted}
use Rattle.tp4_number.specs.Traffic.{Rules, IsFit, Answer, Traffic, Tick, Send, Resend, Dt_comes, Ak_comes, after, answer_of}
use Rattle.tp4_number.proofs.Accounts.{none}
use Rattle.tp4_number.proofs.Sound.{Sound}
use Rattle.law_recovery_pair.specs.Views.{View, view_of, said, known, IsNoOlder, LeadsTo, AreViews}
use Rattle.law_recovery_pair.specs.Recovering.{Road, Move, Ticks, Sends, Resends, Grants, Repeats, Dt_arrives, Ak_arrives, Late_dt, Late_ak, MayMove, spoken, moved, IsDue, Waits, Passed, Holds, Leaves, IsSilent, IsRecovering}
use Rattle.law_recovery_pair.proofs.Free.{stays_free}
use Rattle.law_recovery_pair.proofs.Older.{same_view, older_low, older_both, older_then, leads_on}
use Rattle.law_recovery_pair.proofs.Receiving.{IsHad, Past, Kept_at, says, IsReceived, receives}
use Rattle.law_recovery_pair.proofs.Rising.{gives}
use Rattle.law_recovery_pair.proofs.Telling.{knows, IsTaken, IsLeft, tells}

pub first_or : {X : Type 0} (x y : X) (rest : List X) → Contains (x ∷ rest) y → (x ≡ y) ⊎ Contains rest y
first_or x y rest h = elim (Contains-append_cases (x ∷ []) rest y h) [
  | inl first ↦ elim (Contains-push_cases [] x y first) [ inl no_one ↦ absurd (none y no_one) | inr same ↦ inl same ]
  | inr later ↦ inr later
]

pub one_or : {X : Type 0} (before : List X) (x y : X) (rest : List X) → Contains (before ++ x ∷ rest) y → (x ≡ y) ⊎ Contains (before ++ rest) y
one_or before x y rest h = elim (Contains-append_cases before (x ∷ rest) y h) [
  | inl early ↦ inr (Contains-append_left before rest y early)
  | inr others ↦ elim (first_or x y rest others) [ inl same ↦ inl same | inr later ↦ inr (Contains-append_right before rest y later) ]
]

pub later_too : {X : Type 0} (x y : X) (rest : List X) → Contains rest y → Contains (x ∷ rest) y
later_too x y rest h = Contains-append_right (x ∷ []) rest y h

-- what a receiver had is due no more
had_due : (r : Road) (n : ℕ) → IsHad r.traffic.receiver n → IsDue r n
had_due r n (Past low) = Passed low
had_due r n (Kept_at d at h) = Holds d at h

module _ (rules : Rules) (fit : IsFit rules) (size u : ℕ) (r : Road) (s : Sound rules r.traffic) (v : AreViews r.traffic) (j : IsRecovering size u r) where
  abbrev w : Traffic
  w = r.traffic

  -- the receiver did something, and says what it says now
  speaks : (new : Receiver) (dts : List (ℕ × ℕ)) → IsNoOlder (says w.receiver) (says new) → ((m : ℕ) → IsHad w.receiver m → IsHad new m)
      → ((m tick : ℕ) → Contains r.dts (m, tick) → Contains dts (m, tick) ⊎ (IsHad new m ⊎ (new.expected + new.inbox.credit ≤ m)))
      → length new.inbox.held.places ≡ size → new.inbox.credit ≤ size → is_held new.inbox.held 0 ≡ false
      → IsRecovering size u (spoken rules (record r { traffic = record w { receiver = new }; dts = dts }))
  speaks new dts up had this places room free = record {
    from = j.from;
    due = λ n tick c since low high. by n (j.due n tick c since low high);
    views = inl (viewed j.views);
    waiting = λ a h. elim (Contains-push_cases r.aks says_now a h) [
      | inl old ↦ (Contains-append_left w.answers _ _ (j.waiting a old).0, (j.waiting a old).1)
      | inr here ↦ subst (λ (b : Answer). Contains (w.answers ++ says_now ∷ []) b × (u ≤ b.tick)) here (Contains-push w.answers says_now, j.from)
    ];
    places = places;
    room = room;
    free = free;
  }
    where
      says_now : Answer
      says_now = answer_of (record w { receiver = new })

      to : Road
      to = spoken rules (record r { traffic = record w { receiver = new }; dts = dts })

      by : (n : ℕ) → IsDue r n → IsDue to n
      by n (Waits tick c) = elim (this n tick c) [
        | inl still ↦ Waits tick still
        | inr came ↦ elim came [ inl h ↦ had_due to n h | inr out ↦ Leaves says_now (Contains-push r.aks says_now) out ]
      ]
      by n (Passed low) = had_due to n (had n (Past low))
      by n (Holds d at h) = had_due to n (had n (Kept_at d at h))
      by n (Leaves a c out) = Leaves a (Contains-append_left r.aks _ _ c) out

      viewed : LeadsTo (known w) r.aks (said w) ⊎ IsSilent u r → LeadsTo (known w) (r.aks ++ says_now ∷ []) (says new)
      viewed (inl l) = leads_on (known w) r.aks (said w) says_now l up
      viewed (inr q) = subst (λ (l : List Answer). LeadsTo (known w) (l ++ says_now ∷ []) (says new)) (sym q.waits) (older_then (known w) (said w) (says new) v.knows up, refl)

  -- the sender sends one of its numbers, and the next one is this
  sends_one : (m : ℕ) (to : Sender) → knows to ≡ knows w.sender → ((n : ℕ) → n < to.next → (n < w.sender.next) ⊎ (m ≡ n))
      → IsRecovering size u (record r { traffic = record w { sender = to; sends = w.sends ++ (m, w.clock) ∷ [] }; dts = r.dts ++ (m, w.clock) ∷ [] })
  sends_one m to same next = record {
    from = j.from;
    due = λ n tick c since low high. elim (next n high) [
      | inr here ↦ goes n here
      | inl old ↦ elim (Contains-push_cases w.sends (m, w.clock) (n, tick) c) [
        | inl before ↦ still n (j.due n tick before since (omega (arith, low, ap (λ (k : View). k.number) same)) old)
        | inr now ↦ goes n (ap (λ (p : ℕ × ℕ). p.0) now)
      ]
    ];
    views = viewed j.views;
    waiting = j.waiting;
    places = j.places;
    room = j.room;
    free = j.free;
  }
    where
      new : Road
      new = record r { traffic = record w { sender = to; sends = w.sends ++ (m, w.clock) ∷ [] }; dts = r.dts ++ (m, w.clock) ∷ [] }

      goes : (n : ℕ) → m ≡ n → IsDue new n
      goes n here = subst (λ (k : ℕ). IsDue new k) here (Waits w.clock (Contains-push r.dts (m, w.clock)))

      still : (n : ℕ) → IsDue r n → IsDue new n
      still n (Waits tick c) = Waits tick (Contains-append_left r.dts _ _ c)
      still n (Passed low) = Passed low
      still n (Holds d at h) = Holds d at h
      still n (Leaves a c out) = Leaves a c out

      viewed : LeadsTo (known w) r.aks (said w) ⊎ IsSilent u r → LeadsTo (knows to) r.aks (said w) ⊎ IsSilent u new
      viewed (inl l) = inl (subst (λ (k : View). LeadsTo k r.aks (said w)) (sym same) l)
      viewed (inr q) = inr (record { waits = q.waits; past = q.past })

  -- the sender heard an AK
  hears : (to : Sender) (aks : List Answer) → ((m : ℕ) → to.base ≤ m → m < to.next → (w.sender.base ≤ m) × (m < w.sender.next))
      → ((m : ℕ) (b : Answer) → to.base ≤ m → m < to.next → Contains r.aks b → b.number + b.credit ≤ m → Contains aks b)
      → ((b : Answer) → Contains aks b → Contains r.aks b)
      → LeadsTo (knows to) aks (said w) ⊎ IsSilent u (record r { traffic = record w { sender = to }; aks = aks })
      → IsRecovering size u (record r { traffic = record w { sender = to }; aks = aks })
  hears to aks within left part views = record {
    from = j.from;
    due = λ n tick c since low high. by n low high (j.due n tick c since (within n low high).0 (within n low high).1);
    views = views;
    waiting = λ a h. j.waiting a (part a h);
    places = j.places;
    room = j.room;
    free = j.free;
  }
    where
      by : (n : ℕ) → to.base ≤ n → n < to.next → IsDue r n → IsDue (record r { traffic = record w { sender = to }; aks = aks }) n
      by n low high (Waits tick c) = Waits tick c
      by n low high (Passed p) = Passed p
      by n low high (Holds d at h) = Holds d at h
      by n low high (Leaves a c out) = Leaves a (left n a low high c out) out

  -- a taken AK leaves no number outstanding that was not, and none outside its window
  shrinks : (to : Sender) (a : Answer) → IsTaken w.sender to a ⊎ IsLeft w.sender to a → (m : ℕ) → to.base ≤ m → m < to.next → (w.sender.base ≤ m) × (m < w.sender.next)
  shrinks to a (inl t) m low high =
      let n = ap (λ (k : View). k.number) t.view in
      let up = older_low _ _ t.newer in
      (omega (arith, n, up, low), omega (arith, n, low, high, t.next))
  shrinks to a (inr l) m low high = subst (λ (x : Sender). x.base ≤ m → m < x.next → (w.sender.base ≤ m) × (m < w.sender.next)) (sym l.same) (λ p q. (p, q)) low high

  inside : (to : Sender) (a : Answer) → knows to ≡ view_of a → IsTaken w.sender to a ⊎ IsLeft w.sender to a → (m : ℕ) → to.base ≤ m → m < to.next → a.number + a.credit ≤ m → ⊥
  inside to a is (inl t) m low high out =
      let n = ap (λ (k : View). k.number) t.view in
      absurd (omega (arith, n, low, high, t.next, out))
  inside to a is (inr l) m low high out =
      let b = ap (λ (x : Sender). x.next) l.same in
      let n = ap (λ (k : View). k.number) (ap knows (sym l.same) ∙ is) in
      let c = ap (λ (k : View). k.credit) (ap knows (sym l.same) ∙ is) in
      absurd (omega (arith, b, n, c, v.edge, high, out))

  now_knows : (to : Sender) (a : Answer) → IsNoOlder (known w) (view_of a) → IsTaken w.sender to a ⊎ IsLeft w.sender to a → knows to ≡ view_of a
  now_knows to a newer (inl t) = t.view
  now_knows to a newer (inr l) = ap knows l.same ∙ older_both (known w) (view_of a) newer l.older

  -- the first AK that waits comes
  ak_first : (a : Answer) (rest : List Answer) (to : Sender) → r.aks ≡ a ∷ rest → IsTaken w.sender to a ⊎ IsLeft w.sender to a → IsRecovering size u (record r { traffic = record w { sender = to }; aks = rest })
  ak_first a rest to first t = elim j.views [
    | inr q ↦ absurd (nothing (sym q.waits ∙ first))
    | inl l ↦
        (let l2 : LeadsTo (known w) (a ∷ rest) (said w) = subst (λ (x : List Answer). LeadsTo (known w) x (said w)) first l in
        let is : knows to ≡ view_of a = now_knows to a l2.0 t in
        hears to rest (shrinks to a t)
        (λ m b low high c out. elim (first_or a b rest (subst (λ (x : List Answer). Contains x b) first c)) [
          | inl same ↦ absurd (inside to a is t m low high (subst (λ (x : Answer). x.number + x.credit ≤ m) (sym same) out))
          | inr later ↦ later
        ])
        (λ b h. subst (λ (x : List Answer). Contains x b) (sym first) (later_too a b rest h))
        (inl (subst (λ (k : View). LeadsTo k rest (said w)) (sym is) l2.1)))
  ]
    where
      nothing : [] ≡ a ∷ rest → ⊥
      nothing e = cc e

  -- an AK from before comes
  ak_late : (a : Answer) (to : Sender) → a.tick < u → Contains w.answers a → IsTaken w.sender to a ⊎ IsLeft w.sender to a → IsRecovering size u (record r { traffic = record w { sender = to } })
  ak_late a to old h t = hears to r.aks (shrinks to a t) (λ m b low high c out. c) (λ b c. c) (elim j.views [ inr q ↦ inr (record { waits = q.waits; past = q.past }) | inl l ↦ inl (by r.aks (λ b c. c) l t) ])
    where
      by : (aks : List Answer) → ((b : Answer) → Contains aks b → Contains r.aks b) → LeadsTo (known w) aks (said w) → IsTaken w.sender to a ⊎ IsLeft w.sender to a → LeadsTo (knows to) aks (said w)
      by aks part l (inr x) = subst (λ (k : View). LeadsTo k aks (said w)) (sym (ap knows x.same)) l
      by [] part l (inl x) = x.view ∙ older_both (view_of a) (said w) (v.answered a h) (subst (λ (k : View). IsNoOlder k (view_of a)) l x.newer)
      by (b ∷ rest) part l (inl x) =
          let k = j.waiting b (part b (Contains-append_left (b ∷ []) rest b (Contains-push [] b))) in
          (subst (λ (k : View). IsNoOlder k (view_of b)) (sym x.view) (v.rising a b h k.0 (omega (arith, old, k.1))), l.1)

  dt_due : (new : Receiver) (n : ℕ) → IsReceived size w.receiver new n → IsNoOlder (says w.receiver) (says new)
  dt_due new n x = x.risen

  pub keeps_on : (move : Move) → MayMove rules size u r move → IsRecovering size u (moved rules r move)
  keeps_on Ticks may = record { from = omega (arith, j.from); due = λ n tick c since low high. same n (j.due n tick c since low high); views = elim j.views [ inl l ↦ inl l | inr q ↦ inr (record { waits = q.waits; past = q.past }) ]; waiting = j.waiting; places = j.places; room = j.room; free = j.free }
    where
      same : (n : ℕ) → IsDue r n → IsDue (record r { traffic = after rules r.traffic Tick }) n
      same n (Waits tick c) = Waits tick c
      same n (Passed p) = Passed p
      same n (Holds d at h) = Holds d at h
      same n (Leaves a c out) = Leaves a c out
  keeps_on Sends may = sends_one w.sender.next (after rules w Send).sender refl (λ n h. elim (cases_lt n w.sender.next) [ inl old ↦ inl old | inr here ↦ inr (omega (arith, here, h)) ])
  keeps_on (Resends n) may = sends_one n (after rules w (Resend n)).sender refl (λ m h. inl h)
  keeps_on (Grants credit) may =
      let g = gives w.receiver size credit may.1 in
      let new : Receiver = record w.receiver { inbox = granted w.receiver.inbox credit } in
      speaks new r.dts g.risen (λ m h. had_by (granted w.receiver.inbox credit) g.held m h) (λ m tick c. inl c)
      (ap (λ (x : Held). length x.places) g.held ∙ j.places) (g.room j.room) (subst (λ (x : Held). is_held x 0 ≡ false) (sym g.held) j.free)
    where
      had_by : (to : Inbox) → to.held ≡ w.receiver.inbox.held → (m : ℕ) → IsHad w.receiver m → IsHad (record w.receiver { inbox = to }) m
      had_by to same m (Past low) = Past low
      had_by to same m (Kept_at d at h) = Kept_at d at (subst (λ (x : Held). is_held x d ≡ true) (sym same) h)
  keeps_on Repeats may = speaks w.receiver r.dts (same_view (says w.receiver)) (λ m h. h) (λ m tick c. inl c) j.places j.room j.free
  keeps_on (Dt_arrives before n tick rest piece) may =
      let x = receives rules fit w s size j.places j.room n tick piece may.1 in
      speaks (after rules w (Dt_comes n tick piece)).receiver (before ++ rest) x.risen x.had
      (λ m t c. elim (one_or before (n, tick) (m, t) rest (subst (λ (l : List (ℕ × ℕ)). Contains l (m, t)) may.0 c)) [
        | inl same ↦ inr (subst (λ (k : ℕ). IsHad (after rules w (Dt_comes n tick piece)).receiver k ⊎ ((after rules w (Dt_comes n tick piece)).receiver.expected + (after rules w (Dt_comes n tick piece)).receiver.inbox.credit ≤ k)) (ap (λ (p : ℕ × ℕ). p.0) same) x.this)
        | inr later ↦ inl later
      ]) x.places (omega (arith, x.credit, j.room)) (stays_free rules w n piece may.2 j.free)
  keeps_on (Ak_arrives a rest) may = ak_first a rest (after rules w (Ak_comes a)).sender may.0 (tells rules fit w s a may.1)
  keeps_on (Late_dt n tick piece) may =
      let x = receives rules fit w s size j.places j.room n tick piece may.1 in
      speaks (after rules w (Dt_comes n tick piece)).receiver r.dts x.risen x.had (λ m t c. inl c) x.places (omega (arith, x.credit, j.room)) (stays_free rules w n piece may.2 j.free)
  keeps_on (Late_ak a) may = ak_late a (after rules w (Ak_comes a)).sender may.0 may.1.0 (tells rules fit w s a may.1)
