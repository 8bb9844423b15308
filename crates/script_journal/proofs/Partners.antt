-- An end has one partner: one event makes the end, so the request and the indication of a connection are those of both its ends.
use Rattle.std.proofs.Common.{◌≡◌, inl, inr, ℕ, List, sym, ◌∙◌, ap, subst}
use Rattle.std.proofs.lemmas.Bool.{cases_order}
use Rattle.script_journal.specs.Lawful.{AreQueues}
use Rattle.script_journal.specs.Partner.{IsLatest, Partner, AreEnds, ArePartners}
use Rattle.script_journal.specs.declared.event.Event.{Event}
use Rattle.script_journal.specs.declared.event.Event.TheVariants as events
use Rattle.script_journal.specs.declared.event.Indication.{Indication}
use Rattle.script_journal.specs.declared.event.Request.{Request}

module _ (titles : List (List ℕ)) (journal : List Event) (queues : AreQueues titles journal) where
  pub one_latest : (p q other : ℕ) (calling : List ℕ) (reference : ℕ) (asked again : Request) → IsLatest journal p q calling reference asked → IsLatest journal p other calling reference again → q ≡ other
  one_latest p q other calling reference asked again a b = elim (cases_order q other) [
    | inl same ↦ same
    | inr (inl below) ↦ absurd (a.last other again below b.before b.is b.from b.by)
    | inr (inr above) ↦ absurd (b.last q asked above a.before a.is a.from a.by)
  ]

  -- who called it
  one_calling : (end one other : ℕ) → AreEnds journal one end → AreEnds journal other end → one ≡ other
  one_calling end one other a b =
      let place : a.p ≡ b.p = queues.made a.p b.p end (events.Incoming a.heard) (events.Incoming b.heard) a.partner.is b.partner.is a.called_is b.called_is in
      let heard : b.heard ≡ a.heard = cc (a.partner.is, b.partner.is, place) in
      let moved : IsLatest journal a.p b.q b.heard.calling b.heard.partner b.asked = subst (λ (p : ℕ). IsLatest journal p b.q b.heard.calling b.heard.partner b.asked) (sym place) b.partner.latest in
      let there : IsLatest journal a.p b.q a.heard.calling a.heard.partner b.asked = subst (λ (h : Indication). IsLatest journal a.p b.q h.calling h.partner b.asked) heard moved in
      let request : a.q ≡ b.q = one_latest a.p a.q b.q a.heard.calling a.heard.partner a.asked b.asked a.partner.latest there in
      let asked : a.asked ≡ b.asked = cc (a.partner.latest.is, b.partner.latest.is, request) in
      sym a.calling_is ∙ ap (λ (r : Request). r.end) asked ∙ b.calling_is

  -- whom it called
  one_called : (end one other : ℕ) → AreEnds journal end one → AreEnds journal end other → one ≡ other
  one_called end one other a b =
      let request : a.q ≡ b.q = queues.made a.q b.q end (events.Connect a.asked) (events.Connect b.asked) a.partner.latest.is b.partner.latest.is a.calling_is b.calling_is in
      let asked : b.asked ≡ a.asked = cc (a.partner.latest.is, b.partner.latest.is, request) in
      let moved : Partner journal b.p a.q b.heard b.asked = subst (λ (q : ℕ). Partner journal b.p q b.heard b.asked) (sym request) b.partner in
      let there : Partner journal b.p a.q b.heard a.asked = subst (λ (r : Request). Partner journal b.p a.q b.heard r) asked moved in
      let place : a.p ≡ b.p = queues.one a.p b.p a.q a.heard b.heard a.asked a.partner there in
      let heard : a.heard ≡ b.heard = cc (a.partner.is, b.partner.is, place) in
      sym a.called_is ∙ ap (λ (h : Indication). h.end) heard ∙ b.called_is

  -- no end called and was called
  not_both : (end called calling : ℕ) → AreEnds journal end called → AreEnds journal calling end → ⊥
  not_both end called calling a b =
      let place : a.q ≡ b.p = queues.made a.q b.p end (events.Connect a.asked) (events.Incoming b.heard) a.partner.latest.is b.partner.is a.calling_is b.called_is in
      absurd (cc (a.partner.latest.is, b.partner.is, place))

  pub one_partner : (end one other : ℕ) → ArePartners journal end one → ArePartners journal end other → one ≡ other
  one_partner end one other (inl a) (inl b) = one_called end one other a b
  one_partner end one other (inl a) (inr b) = absurd (not_both end one other a b)
  one_partner end one other (inr a) (inl b) = absurd (not_both end other one b a)
  one_partner end one other (inr a) (inr b) = one_calling end one other a b
