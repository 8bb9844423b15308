-- All new sends of one moment are a list of events.
use Rattle.std.proofs.Common.{◌≡◌, ℕ, zero, suc, Bool, true, List, [], ◌∷◌, ◌++◌, ◌&&◌, refl, append_assoc, append-nil, false, ap}
use Rattle.std.proofs.lemmas.Bool.{ltb-true}
use Rattle.tp4_number.specs.Sender.{Sender, sent_all, gone, goes}
use Rattle.tp4_number.specs.Traffic.{Rules, Traffic, Event, Send, after, Leads}
use Rattle.tp4_number.proofs.Past.{if_both}

all_true : (a b c : Bool) → (a && (b && c)) ≡ true → (b ≡ true) × (c ≡ true)
all_true true true true t = (refl, refl)
all_true a b c t = absurd (cc t)

pub all_lead : (rules : Rules) (total fuel : ℕ) (w : Traffic)
    → (events : List Event) × Leads rules w events (record w { sender = sent_all fuel rules.block rules.limit w.sender w.clock total; sends = w.sends ++ gone fuel rules.block rules.limit w.sender w.clock total })
all_lead rules total zero w = ([], ap (λ (l : List (ℕ × ℕ)). record w { sends = l }) (append-nil w.sends))
all_lead rules total (suc fuel) w =
    if_both (λ (s : Sender) (more : List (ℕ × ℕ)). (events : List Event) × Leads rules w events (record w { sender = s; sends = w.sends ++ more })) (goes rules.block rules.limit w.sender w.clock total) _ _ _ _
    (λ t.
    let b = all_true _ _ _ t in
    let q = all_lead rules total fuel (after rules w Send) in
    (Send ∷ q.0, ((ltb-true _ _ b.0, b.1), rw append_assoc at q.1)))
    (λ _. ([], ap (λ (l : List (ℕ × ℕ)). record w { sends = l }) (append-nil w.sends)))
