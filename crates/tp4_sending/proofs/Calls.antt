-- A call at a tick: what it keeps, and what comes of an AK.
use Rattle.std.proofs.Common.{◌≡◌, ℕ, ◌++◌, Bool, true, false, if◌then◌else◌, append-nil, refl, sym, subst}
use Rattle.tp4_flow.specs.Told.{Told}
use Rattle.tp4_number.specs.Number.{near}
use Rattle.tp4_sending.specs.SendingHalf.{FlowSender, Sends, Keeps, at, nothing, block_in, new_sends, is_taken, acknowledged_to, acknowledged}

-- what is kept from a tick on
pub kept_at : (s new : FlowSender) (now : ℕ) → Keeps (at now s) new now → Keeps s new now
kept_at s new now k = record { rules = k.rules; is_open = k.is_open; clock = k.clock }

-- nothing but what was there
pub stays : (s : FlowSender) (was : Told) → Sends (nothing s) s was was
stays s was = record {
  sender_is = refl;
  told = λ i. record { events = sym (append-nil was.events) i; tpdus = sym (append-nil was.tpdus) i };
}

-- whether an AK of a wire number is newer
pub ak_newer : (s : FlowSender) (w n credit subsequence : ℕ) (newer : Bool) → n ≡ near (block_in s) s.numbers.base w → newer ≡ is_taken s n credit subsequence
    → newer ≡ is_taken s (near (block_in s) s.numbers.base w) credit subsequence
ak_newer s w n credit subsequence newer number taken = subst (λ (k : ℕ). newer ≡ is_taken s k credit subsequence) number taken

-- a newer AK
pub ak_done : (s : FlowSender) (w n credit subsequence : ℕ) (mid new : FlowSender) (was is : Told) → n ≡ near (block_in s) s.numbers.base w → true ≡ is_taken s n credit subsequence
    → mid ≡ acknowledged_to s n credit subsequence → Sends (new_sends mid) new was is → Sends (acknowledged s w credit subsequence) new was is
ak_done s w n credit subsequence mid new was is number taken to step =
    subst (λ (k : ℕ). Sends (if is_taken s k credit subsequence then new_sends (acknowledged_to s k credit subsequence) else nothing s) new was is) number
    (subst (λ (b : Bool). Sends (if b then new_sends (acknowledged_to s n credit subsequence) else nothing s) new was is) taken
    (subst (λ (f : FlowSender). Sends (new_sends f) new was is) to step))

-- an AK that is no newer
pub ak_left : (s : FlowSender) (w n credit subsequence : ℕ) (was : Told) → n ≡ near (block_in s) s.numbers.base w → false ≡ is_taken s n credit subsequence → Sends (acknowledged s w credit subsequence) s was was
ak_left s w n credit subsequence was number taken =
    subst (λ (k : ℕ). Sends (if is_taken s k credit subsequence then new_sends (acknowledged_to s k credit subsequence) else nothing s) s was was) number
    (subst (λ (b : Bool). Sends (if b then new_sends (acknowledged_to s n credit subsequence) else nothing s) s was was) taken (stays s was))
