-- Tracks that go on: one list of happenings after another, and what each side leaves as it is.
use Rattle.std.proofs.Common.{◌≡◌, ℕ, ◌+◌, ◌==◌, ◌&&◌, nat_lt, true, List, [], ◌∷◌, ◌++◌, Option, refl, sym, ◌∙◌, ap, subst}
use Rattle.tp4_number.specs.Number.{wire}
use Rattle.tp4_number.specs.Traffic.{Tick, Open, Send, Resend, Dt_comes, Grant, Acknowledge, Ak_comes}
use Rattle.tp4_number.specs.Expedited.{Urgent, Ticks, Sends_ed, Resends_ed, Ed_comes, Ea_comes, ed_taken, ea_taken}
use Rattle.tp4_number.proofs.Past.{if_kept}
use Rattle.tp4_flow.specs.declared.step.Sent.{Sent}
use Rattle.law_tp4_history.specs.Ends.{Offer}
use Rattle.law_tp4_history.specs.Line.{Line, Happening, Submit, Clock, Flows, Expedites, next}
use Rattle.law_tp4_history.specs.Tracks.{Track, CanOut, CanIn, RunsBy, GoesOn}
use Rattle.law_tp4_history.specs.Lines.{AreSentIn}
use Rattle.law_tp4_history.proofs.FlowLines.{grows_by, runs_then, at_line, sent_later}

pub goes_none : (can : Track → Line → Happening → Type 0) (t : Track) → t.is_begun ≡ true → GoesOn can t t
goes_none can t begun = record { begun = begun; same = refl; happenings = []; runs = refl }

-- what may happen does not depend on where the track stood
out_here : (taken : Option Offer) (t : Track) (x l : Line) (happening : Happening) → CanOut taken (at_line t x) l happening → CanOut taken t l happening
out_here taken t x l (Flows Tick) can = can
out_here taken t x l (Flows (Open credit)) can = can
out_here taken t x l (Flows Send) can = can
out_here taken t x l (Flows (Resend n)) can = can
out_here taken t x l (Flows (Dt_comes n tick piece)) can = can
out_here taken t x l (Flows (Grant credit)) can = can
out_here taken t x l (Flows Acknowledge) can = can
out_here taken t x l (Flows (Ak_comes answer)) can = can
out_here taken t x l (Expedites Ticks) can = can
out_here taken t x l (Expedites Sends_ed) can = can
out_here taken t x l (Expedites Resends_ed) can = can
out_here taken t x l (Expedites (Ed_comes n tick)) can = can
out_here taken t x l (Expedites (Ea_comes n tick)) can = can
out_here taken t x l other can = can

outs_here : (taken : Option Offer) (t : Track) (x l new : Line) (happenings : List Happening) → RunsBy (CanOut taken) (at_line t x) l happenings new → RunsBy (CanOut taken) t l happenings new
outs_here taken t x l new [] r = r
outs_here taken t x l new (happening ∷ happenings) r = (out_here taken t x l happening r.0, outs_here taken t x (next t.rules l happening) new happenings r.1)

pub goes_twice : (taken : Option Offer) (old mid new : Track) → GoesOn (CanOut taken) old mid → GoesOn (CanOut taken) mid new → GoesOn (CanOut taken) old new
goes_twice taken old mid new a b = record {
  begun = a.begun;
  same = b.same ∙ ap (λ (u : Track). at_line u new.line) a.same;
  happenings = a.happenings ++ b.happenings;
  runs = runs_then (CanOut taken) old old.line mid.line new.line a.happenings b.happenings a.runs
      (outs_here taken old mid.line mid.line new.line b.happenings (subst (λ (u : Track). RunsBy (CanOut taken) u mid.line b.happenings new.line) a.same b.runs));
}

-- what was sent stands in tracks that went on
pub sent_on : (first second : Track → Line → Happening → Type 0) (own theirs own' theirs' : Track) (tick : ℕ) (tpdus : List Sent) → GoesOn first own own' → GoesOn second theirs theirs'
    → AreSentIn own theirs tick tpdus → AreSentIn own' theirs' tick tpdus
sent_on first second own theirs own' theirs' tick tpdus a b are =
    subst (λ (u : Track). AreSentIn u theirs' tick tpdus) (sym a.same)
    (subst (λ (u : Track). AreSentIn (at_line own own'.line) u tick tpdus) (sym b.same)
    (sent_later own theirs own'.line theirs'.line tick tpdus (grows_by first own own.line own'.line a.happenings a.runs) (grows_by second theirs theirs.line theirs'.line b.happenings b.runs) are))

pub begun_on : (can : Track → Line → Happening → Type 0) (old new : Track) → GoesOn can old new → new.is_begun ≡ true
begun_on can old new g = ap (λ (u : Track). u.is_begun) g.same ∙ g.begun

pub rules_on : (can : Track → Line → Happening → Type 0) (old new : Track) → GoesOn can old new → new.rules ≡ old.rules
rules_on can old new g = ap (λ (u : Track). u.rules) g.same

pub size_on : (can : Track → Line → Happening → Type 0) (old new : Track) → GoesOn can old new → new.size ≡ old.size
size_on can old new g = ap (λ (u : Track). u.size) g.same

-- what an end does to its own line leaves the receiving side
pub record SameBelow (l new : Line) : Type 0 where
  pub receiver : new.world.receiver ≡ l.world.receiver
  pub expected : new.urgent.expected ≡ l.urgent.expected

ea_below : (block : ℕ) (u : Urgent) (n : ℕ) → (ea_taken block u n).expected ≡ u.expected
ea_below block u n = if_kept (λ (x : Urgent). x.expected ≡ u.expected) (nat_lt u.base u.next && wire block n == wire block u.base) _ _ (λ _. refl) (λ _. refl)

out_below : (taken : Option Offer) (t : Track) (l : Line) (happening : Happening) → CanOut taken t l happening → SameBelow l (next t.rules l happening)
out_below taken t l (Submit unit) can = record { receiver = refl; expected = refl }
out_below taken t l Clock can = absurd can
out_below taken t l (Flows Tick) can = absurd can
out_below taken t l (Flows (Open credit)) can = record { receiver = refl; expected = refl }
out_below taken t l (Flows Send) can = record { receiver = refl; expected = refl }
out_below taken t l (Flows (Resend n)) can = record { receiver = refl; expected = refl }
out_below taken t l (Flows (Dt_comes n tick piece)) can = absurd can
out_below taken t l (Flows (Grant credit)) can = absurd can
out_below taken t l (Flows Acknowledge) can = absurd can
out_below taken t l (Flows (Ak_comes answer)) can = record { receiver = refl; expected = refl }
out_below taken t l (Expedites Ticks) can = absurd can
out_below taken t l (Expedites Sends_ed) can = record { receiver = refl; expected = refl }
out_below taken t l (Expedites Resends_ed) can = record { receiver = refl; expected = refl }
out_below taken t l (Expedites (Ed_comes n tick)) can = absurd can
out_below taken t l (Expedites (Ea_comes n tick)) can = record { receiver = refl; expected = ea_below t.rules.block l.urgent n }

pub outs_below : (taken : Option Offer) (t : Track) (l new : Line) (happenings : List Happening) → RunsBy (CanOut taken) t l happenings new → SameBelow l new
outs_below taken t l new [] r = record { receiver = ap (λ (x : Line). x.world.receiver) r; expected = ap (λ (x : Line). x.urgent.expected) r }
outs_below taken t l new (happening ∷ happenings) r =
    let a = out_below taken t l happening r.0 in
    let b = outs_below taken t (next t.rules l happening) new happenings r.1 in
    record { receiver = b.receiver ∙ a.receiver; expected = b.expected ∙ a.expected }

-- what an end does to the line of its partner leaves the sending side
pub record SameAbove (l new : Line) : Type 0 where
  pub sender : new.world.sender ≡ l.world.sender
  pub base : new.urgent.base ≡ l.urgent.base
  pub next : new.urgent.next ≡ l.urgent.next
  pub blocks : new.urgent.blocks ≡ l.urgent.blocks
  pub submitted : new.submitted ≡ l.submitted

record SameEds (u new : Urgent) : Type 0 where
  base : new.base ≡ u.base
  next : new.next ≡ u.next
  blocks : new.blocks ≡ u.blocks

ed_above : (block : ℕ) (u : Urgent) (n : ℕ) → SameEds u (ed_taken block u n)
ed_above block u n =
    if_kept (SameEds u) (wire block n == wire block u.expected) _ _
    (λ _. record { base = refl; next = refl; blocks = refl })
    (λ _. if_kept (SameEds u) (wire block (n + 1) == wire block u.expected) _ _ (λ _. record { base = refl; next = refl; blocks = refl }) (λ _. record { base = refl; next = refl; blocks = refl }))

in_above : (taken : Option Offer) (t : Track) (l : Line) (happening : Happening) → CanIn taken t l happening → SameAbove l (next t.rules l happening)
in_above taken t l (Flows Tick) can = absurd can
in_above taken t l (Flows (Open credit)) can = absurd can
in_above taken t l (Flows Send) can = absurd can
in_above taken t l (Flows (Resend n)) can = absurd can
in_above taken t l (Flows (Dt_comes n tick piece)) can = record { sender = refl; base = refl; next = refl; blocks = refl; submitted = refl }
in_above taken t l (Flows (Grant credit)) can = record { sender = refl; base = refl; next = refl; blocks = refl; submitted = refl }
in_above taken t l (Flows Acknowledge) can = record { sender = refl; base = refl; next = refl; blocks = refl; submitted = refl }
in_above taken t l (Flows (Ak_comes answer)) can = absurd can
in_above taken t l (Expedites Ticks) can = absurd can
in_above taken t l (Expedites Sends_ed) can = absurd can
in_above taken t l (Expedites Resends_ed) can = absurd can
in_above taken t l (Expedites (Ed_comes n tick)) can = let e = ed_above t.rules.block l.urgent n in record { sender = refl; base = e.base; next = e.next; blocks = e.blocks; submitted = refl }
in_above taken t l (Expedites (Ea_comes n tick)) can = absurd can
in_above taken t l other can = absurd can

pub ins_above : (taken : Option Offer) (t : Track) (l new : Line) (happenings : List Happening) → RunsBy (CanIn taken) t l happenings new → SameAbove l new
ins_above taken t l new [] r = record {
  sender = ap (λ (x : Line). x.world.sender) r;
  base = ap (λ (x : Line). x.urgent.base) r;
  next = ap (λ (x : Line). x.urgent.next) r;
  blocks = ap (λ (x : Line). x.urgent.blocks) r;
  submitted = ap (λ (x : Line). x.submitted) r;
}
ins_above taken t l new (happening ∷ happenings) r =
    let a = in_above taken t l happening r.0 in
    let b = ins_above taken t (next t.rules l happening) new happenings r.1 in
    record { sender = b.sender ∙ a.sender; base = b.base ∙ a.base; next = b.next ∙ a.next; blocks = b.blocks ∙ a.blocks; submitted = b.submitted ∙ a.submitted }
