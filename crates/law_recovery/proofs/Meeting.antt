-- What waits first comes to an entity: the end that asked takes it, and tells what became of it, or it is as it was.
use Rattle.std.proofs.Common.{◌≡◌, inl, inr, ℕ, Bool, true, false, List, [], ◌∷◌, ◌++◌, Some, refl, sym, ◌∙◌, ap, subst, append_assoc}
use Rattle.std.specs.Prelude.{◌&&◌, if◌then◌else◌}
use Rattle.std.specs.Cmp.Lexicographic.{bytes_decides}
use Rattle.std.proofs.lemmas.List.Elements.{Contains-append_left}
use Rattle.std.proofs.lemmas.Option.{same_Some}
use Rattle.osi_base.specs.Link.{Link}
use Rattle.script_journal.specs.declared.event.Event.{Event as JournalEvent}
use Rattle.tpdu.specs.Kinds.{has_number}
use Rattle.tpdu.specs.Values.{destination_of}
use Rattle.tpdu.specs.Writing.{is_summed, kind_for}
use Rattle.tpdu.specs.declared.tpdu.Tpdu.{Tpdu}
use Rattle.tpdu.specs.declared.tpdu.Tpdu.TheVariants as wires
use Rattle.tp4_number.specs.Number.{whole}
use Rattle.tp4_flow.specs.declared.step.Sent.{Sent}
use Rattle.tp4_conn.specs.CrWait.{cr_wait_tpdu}
use Rattle.tp4_conn.specs.End.{End, Moved}
use Rattle.tp4_conn.specs.Matching.{is_answer, is_match}
use Rattle.tp4_conn.specs.Table.{Took, at as now_at, stepped, takes, untaken}
use Rattle.tp4_conn.specs.declared.end_record.EndRecord.{EndRecord}
use Rattle.tp4_conn.specs.declared.states.InCrWait.{InCrWait}
use Rattle.tp4_conn.specs.declared.states.StateData.TheVariants.{CrWait}
use Rattle.tp4_conn.specs.declared.timers.Timers.{Timers}
use Rattle.tp4_entity.specs.Association.{is_registered, met, met_at, met_by, unmatched}
use Rattle.tp4_entity.specs.Entity.{Acted, Entity, at, end_at, moved}
use Rattle.law_tp4_history.specs.Tracks.{Whole}
use Rattle.tp4_world.specs.Telling.{events_after}
use Rattle.tp4_world.specs.World.{World, entity_at, latest}
use Rattle.tp4_world.specs.declared.place.Placed.{Placed}
use Rattle.tp4_world.proofs.Having.{with_any}
use Rattle.law_tp4_lawful.proofs.Known.{IsReadAs}
use Rattle.law_tp4_lawful.proofs.Worlds.{Explains}
use Rattle.law_tp4_associations.proofs.EndedWorlds.{IsFitWorld}
use Rattle.law_calm_run.proofs.Hall.{Post, posted}
use Rattle.law_recovery_run.proofs.Aiming.{Going}
use Rattle.law_recovery_run.proofs.Delivering.{HasActed}
use Rattle.law_recovery_run.specs.Requesting.{IsPast, in_cr_wait}
use Rattle.law_recovery_run.proofs.RequestComes.{AreRegistered, IsHere, IsRefusalOf, IsTakenHere, Read, came_as, here_on, listens_on, met_so, placed, unanswered_on, unsettled_on}
use Rattle.law_recovery_run.proofs.Places.{IsMet, Makes, Stays, Takes}
use Rattle.law_recovery_run.proofs.Keeping.{IsKeptApart, IsRefusalTo, apart_on, unanswered_deaf}
use Rattle.law_recovery_run.specs.Asked.{IsTold}
use Rattle.law_recovery.proofs.Accepting.{accepted_then}
use Rattle.law_recovery.proofs.State.{Accepted, AreApart, Asked, Early, IsBare, IsOn, IsReplied, IsReply, Over, Replied, Told}
use Rattle.law_recovery.proofs.HalvesTelling.{IsNamedTpdu, Tells, tells_row, tells_taken, told_before, told_behind, told_in}

-- ---- a CC or a DR

plain : (t : Tpdu) → is_answer t ≡ true → has_number (kind_for t) ≡ false
plain (wires.Cc credit destination source width calling called size preferred extra version classes ack_time text) is = refl
plain (wires.Dr destination source reason info text) is = refl
plain other is = absurd (cc is)

met_answer : (now : ℕ) (e : Entity) (from : List ℕ) (t : Tpdu) (sum : Bool) → is_answer t ≡ true → met whole now e from (t, sum) ≡ met_at whole now e from (t, sum) (destination_of t)
met_answer now e from (wires.Cc credit destination source width calling called size preferred extra version classes ack_time text) sum is = refl
met_answer now e from (wires.Dr destination source reason info text) sum is = refl
met_answer now e from other sum is = absurd (cc is)

refusal_named : (from : List ℕ) (N : Type 0) (own : ℕ) (t : Tpdu) → IsRefusalOf from N own t → IsNamedTpdu N t
refusal_named from N own t f = subst (IsNamedTpdu N) (sym f.is) (inr f.is_reason)

cons_head : {A : Type 0} (x y : A) (xs ys : List A) → x ∷ xs ≡ y ∷ ys → x ≡ y
cons_head {A} x y xs ys is = cc is

cons_tail : {A : Type 0} (x y : A) (xs ys : List A) → x ∷ xs ≡ y ∷ ys → xs ≡ ys
cons_tail {A} x y xs ys is = cc is

module _ {C : Type 0} (link : C → Link (List ℕ)) (titles : List (List ℕ)) (timers : Timers) (w : Whole) (journal : List JournalEvent) (old : World C) (explains : Explains link titles timers w journal old)
    (fit : IsFitWorld link old) (going : Going) (new : World C) (post : Post) (rest : List Post) (made : List JournalEvent) (a : HasActed link old new post made) (front aside : List JournalEvent)
    (made_is : made ≡ front ++ (events_after old.ends a.system a.entity.own a.acted.events ++ aside)) (x system : ℕ) (from : List ℕ) (N : Type 0) where
  abbrev now : ℕ
  now = (link old.carrier).clock

  abbrev e : Entity
  e = at now a.entity

  abbrev more : List Post
  more = posted a.system a.acted.tpdus

  -- what is registered stays
  selectors : a.acted.entity.selectors ≡ a.entity.selectors
  selectors = by (met_so link titles timers w journal old explains new post rest made a)
    where
      by : IsMet (Read link titles timers w journal old explains new post rest made a) now e a.sender.own a.acted → a.acted.entity.selectors ≡ a.entity.selectors
      by (Stays same none answers) = ap (λ (z : Entity). z.selectors) same
      by (Takes t sum reference o read target there match is) = ap (λ (z : Acted). z.entity.selectors) is
      by (Makes reference base octets free own is) = ap (λ (z : Acted). z.entity.selectors) is

  selects_then : (to called : List ℕ) → AreRegistered N old to called → AreRegistered N new to called
  selects_then to called was place z there own none = elim (with_any old.entities a.system place a.acted.entity z (ap (λ (ps : List Placed). entity_at ps place) (sym a.entities) ∙ there)) [
    | inl here ↦ was a.system a.entity a.there (sym a.kept ∙ ap (λ (i : Entity). i.own) (sym here.1) ∙ own)
        (ap (λ (l : List (List ℕ)). is_registered l called) (sym selectors ∙ ap (λ (i : Entity). i.selectors) (sym here.1)) ∙ none)
    | inr before ↦ was place z before own none
  ]

  module _ (b : EndRecord) (r : InCrWait) (h : IsHere system x from N b r old) where
    abbrev asking : End
    asking = in_cr_wait b r

    abbrev Taken : Type 0
    Taken = IsTakenHere link titles timers w journal old explains new post rest made a system x from N b r

    -- ---- it takes what came

    told_by : (m : Moved) → a.system ≡ system → a.acted ≡ moved e b.own m → Tells N b.own m.events → IsTold N made x
    told_by m at_it row tells =
        told_in N old.ends a.system a.entity.own b.own x a.acted.events front aside made (subst (Tells N b.own) (sym (ap (λ (z : Acted). z.events) row)) tells)
        (ap (λ (n : ℕ). latest old.ends n b.own) at_it ∙ h.number) made_is

    taken_tells : (t : Taken) → IsNamedTpdu N t.has.tpdu → IsTold N made x
    taken_tells t named = told_by (stepped whole now asking (Took t.has.tpdu t.has.sum)) t.at_it t.row
        (tells_taken N now b r t.has.tpdu t.has.sum t.has.answer named (subst (λ (n : ℕ). IsPast (takes whole n b (CrWait r) t.has.tpdu t.has.sum).stage) a.clock t.has.past))

    -- it is a DR as its CR is refused by
    turned : IsKeptApart system from N b r post → (t : Tpdu) (sum : Bool) → IsReadAs a.entity post.sent (t, sum) → destination_of t ≡ Some b.own → a.system ≡ system → IsRefusalOf from N b.own t
    turned quiet t sum read target at_it =
        let owner : a.entity ≡ h.entity = same_Some a.entity h.entity (sym a.there ∙ ap (entity_at old.entities) at_it ∙ h.there) in
        let to_is : post.sent.to ≡ from = sym a.own_is ∙ ap (λ (z : Entity). z.own) owner ∙ h.own_is in
        let refused : IsRefusalTo from N b.own post.sent = quiet.refused (record { address = to_is; target = sym read.target ∙ target }) in
        record {
          reason = refused.reason;
          is_reason = refused.is_reason;
          is = read.control (ap (λ (s : Sent). has_number (kind_for s.tpdu)) refused.is) ∙ ap (λ (s : Sent). s.tpdu) refused.is;
        }

    taken_told : IsKeptApart system from N b r post → Taken → IsTold N made x
    taken_told quiet t = taken_tells t (elim t.whence [
      | inl is ↦ refusal_named from N b.own t.has.tpdu is
      | inr q ↦ refusal_named from N b.own t.has.tpdu (turned quiet t.has.tpdu q.0 q.1 q.2 q.3)
    ])

    -- ---- a reply comes

    module _ (reply : IsReply from N b.own post.sent) (sender_is : a.sender.own ≡ b.to) where
      abbrev t : Tpdu
      t = post.sent.tpdu

      abbrev sum : Bool
      sum = is_summed post.sent.sum t

      at_it : a.system ≡ system
      at_it = explains.known.apart a.system system a.entity h.entity a.there h.there (a.own_is ∙ reply.to ∙ sym h.own_is)

      stands : end_at a.entity b.own ≡ Some asking
      stands = ap (λ (z : Entity). end_at z b.own) (same_Some a.entity h.entity (sym a.there ∙ ap (entity_at old.entities) at_it ∙ h.there)) ∙ h.stands

      acted_is : a.acted ≡ met whole now e b.to (t, sum)
      acted_is =
          came_as link titles timers w journal old explains new post rest made a post.sent b.to refl sender_is (plain t reply.answer) ((fit a.system a.entity a.there).audible b.own asking stands)

      abbrev m : Moved
      m = stepped whole now asking (Took t sum)

      match : is_match b (CrWait r) b.to t ≡ true
      match = (λ i. (bytes_decides b.to b.to).1 refl i && reply.answer i)

      row : a.acted ≡ moved e b.own m
      row =
          acted_is ∙ met_answer now e b.to t sum reply.answer ∙ ap (met_at whole now e b.to (t, sum)) reply.target ∙ ap (met_by whole now e b.to (t, sum) b.own) stands
          ∙ ap (λ (c : Bool). if c then moved e b.own m else unmatched e b.to t) match

      tells : Tells N b.own m.events
      tells = subst (λ (c : Bool). Tells N b.own (if c then untaken b (CrWait r) else cr_wait_tpdu (now_at now b) r t).events) (sym reply.summed) (tells_row N (now_at now b) r t reply.answer reply.named)

      pub reply_told : IsTold N made x
      reply_told = told_by m at_it row tells

    -- ---- it is as it was

    module _ (k : IsBare link x system from N b r old (post ∷ rest)) where
      apart_then : AreApart system from N b r (rest ++ more)
      apart_then = apart_on link titles timers w journal old explains going new post rest made a system x from N b r k.here (unanswered_deaf link old new post made a from b k.unanswered) k.listens k.selects k.apart

      bare_then : IsHere system x from N b r new → IsBare link x system from N b r new (rest ++ more)
      bare_then here = record {
        here = here;
        unanswered = unanswered_on link titles timers w journal old explains new post rest made a system x from N b r k.unanswered;
        listens = listens_on link titles timers w journal old explains new post rest made a system x from N b r fit k.listens;
        selects = selects_then b.to b.called k.selects;
        apart = apart_then;
      }

  module _ (F : Type 0) (y limit : ℕ) (first : EndRecord) (asked : InCrWait) (late : List JournalEvent) where
    abbrev On : List Post → Type 0
    On posts = IsOn link x system from N F y limit first asked (late ++ made) new posts

    told_now : IsTold N made x → On (rest ++ more)
    told_now t = Told (told_behind N late made x t)

    replied : (b : EndRecord) (r : InCrWait) (k : IsReplied link x system from N b r old (post ∷ rest)) → (ahead : List Post) → k.front ≡ ahead → On (rest ++ more)
    replied b r k [] none =
        let is : post ∷ rest ≡ k.answer ∷ k.back = k.posts_are ∙ ap (λ (ps : List Post). ps ++ (k.answer ∷ k.back)) none in
        let same : k.answer ≡ post = sym (cons_head post k.answer rest k.back is) in
        let sender : a.sender ≡ k.entity = same_Some a.sender k.entity (sym a.sender_there ∙ ap (λ (p : Post). entity_at old.entities p.system) (sym same) ∙ k.there) in
        told_now (reply_told b r k.here (subst (λ (p : Post). IsReply from N b.own p.sent) same k.reply) (ap (λ (z : Entity). z.own) sender ∙ k.own_is))
    replied b r k (one ∷ ahead) is =
        let posts_are : post ∷ rest ≡ one ∷ (ahead ++ (k.answer ∷ k.back)) = k.posts_are ∙ ap (λ (ps : List Post). ps ++ (k.answer ∷ k.back)) is in
        let apart : AreApart system from N b r (one ∷ ahead) = subst (AreApart system from N b r) is k.apart in
        let same : one ≡ post = sym (cons_head post one rest (ahead ++ (k.answer ∷ k.back)) posts_are) in
        elim (here_on link titles timers w journal old explains new post rest made a system x from N b r k.here) [
          | inl here ↦ Replied b r (on here ahead apart.1 (cons_tail post one rest (ahead ++ (k.answer ∷ k.back)) posts_are))
          | inr taken ↦ told_now (taken_told b r k.here (subst (IsKeptApart system from N b r) same apart.0) taken)
        ]
      where
        on : IsHere system x from N b r new → (ahead : List Post) → AreApart system from N b r ahead → rest ≡ ahead ++ (k.answer ∷ k.back) → IsReplied link x system from N b r new (rest ++ more)
        on here ahead apart is = elim (placed link titles timers w journal old explains new post rest made a k.answer.system k.entity k.there) [
          | inl acts ↦ record {
            here = here;
            front = ahead;
            answer = k.answer;
            back = k.back ++ more;
            posts_are = ap (λ (ps : List Post). ps ++ more) is ∙ append_assoc ahead (k.answer ∷ k.back) more;
            entity = a.acted.entity;
            there = acts.2;
            own_is = a.kept ∙ ap (λ (z : Entity). z.own) (sym acts.1) ∙ k.own_is;
            apart = apart;
            reply = k.reply;
          }
          | inr still ↦ record {
            here = here;
            front = ahead;
            answer = k.answer;
            back = k.back ++ more;
            posts_are = ap (λ (ps : List Post). ps ++ more) is ∙ append_assoc ahead (k.answer ∷ k.back) more;
            entity = k.entity;
            there = still;
            own_is = k.own_is;
            apart = apart;
            reply = k.reply;
          }
        ]

    pub met_on : IsOn link x system from N F y limit first asked late old (post ∷ rest) → On (rest ++ more)
    met_on (Early never k) = elim (here_on link titles timers w journal old explains new post rest made a system x from N first asked k.here) [
      | inl here ↦ Early never (bare_then first asked k.here k here)
      | inr taken ↦ told_now (taken_told first asked k.here k.apart.0 taken)
    ]
    met_on (Asked never b r k p) =
        elim (unsettled_on link titles timers w journal old explains new post rest made a system x from N b r fit k.listens k.selects (record { here = k.here; unanswered = k.unanswered; pending = p })) [
          | inl next ↦ Asked never b r (bare_then b r k.here k next.here) next.pending
          | inr taken ↦ told_now (taken_told b r k.here k.apart.0 taken)
        ]
    met_on (Accepted on b r k) = elim (here_on link titles timers w journal old explains new post rest made a system x from N b r k.here) [
      | inl here ↦ Accepted on b r (accepted_then link titles timers w journal old explains fit going new post rest made a x system from N y limit b r k here (selects_then b.to b.called k.selects))
      | inr taken ↦ told_now (taken_told b r k.here k.apart.0 taken)
    ]
    met_on (Replied b r k) = replied b r k k.front refl
    met_on (Over on t) = Over on (Contains-append_left late made _ t)
    met_on (Told t) = Told (told_before N late made x t)
