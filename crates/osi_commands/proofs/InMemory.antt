-- Over octets in memory what was read is a front of them, and what was written is all that the sink holds; neither a read nor a write fails.
use Rattle.std.proofs.Common.{◌≡◌, ◌≢◌, ◌⊎◌, ◌++◌, inl, inr, ℕ, List, [], Option, Some, refl, sym, ap, subst}
use Rattle.osi_base.specs.Ends.{IsAtEnd, Put}
use Rattle.osi_base.specs.declared.status.Status.{Status}
use Rattle.osi_base.specs.declared.status.Status.TheVariants.{NoMemory, ReadFault, WriteFault}
use Rattle.octet_loop.specs.ByStatus.{IsFailure}
use Rattle.osi_commands.specs.Commands.{Asks, Gives, IsInput, Moves, Reads, Tells}
use Rattle.osi_commands.specs.declared.command.Command.{Command}
use Rattle.osi_commands.specs.declared.command.Command.TheVariants as commands

is_input : (command : Command) (input : List ℕ) → IsInput command (Some input) input
is_input commands.Run input = refl
is_input commands.Frames input = refl
is_input commands.Decode input = refl
is_input (commands.Storm storm) input = tt
is_input (commands.Script kind) input = refl

front_of : (command : Command) (input read : List ℕ) (left_now : Option (List ℕ)) → Reads command (Some input) read left_now → (rest : List ℕ) × (left_now ≡ Some rest) × (input ≡ read ++ rest)
front_of commands.Run input read left_now h = h
front_of commands.Frames input read left_now h = h
front_of commands.Decode input read left_now h = h
front_of (commands.Storm storm) input read left_now h = (input, h.1, ap (λ (octets : List ℕ). octets ++ input) (sym h.0))
front_of (commands.Script kind) input read left_now h = h

some_is : (one other : List ℕ) → Some one ≡ Some other → one ≡ other
some_is one other h = cc

told_plain : (command : Command) (input left_now held_now : List ℕ) (status : Status) → Moves command (Some input) (Some left_now) (Some []) (Some held_now) status
    → (read : List ℕ) × (rest : List ℕ) × (input ≡ read ++ rest) × Tells command (IsAtEnd (Some rest)) read held_now status
told_plain command input left_now held_now status m =
    let front = front_of command input m.0 (Some left_now) m.2 in
    let rest_is : left_now ≡ front.0 = some_is left_now front.0 front.1 in
    let written : held_now ≡ m.1 = some_is held_now m.1 m.3 in
    (m.0, left_now, subst (λ (rest : List ℕ). input ≡ m.0 ++ rest) (sym rest_is) front.2, subst (λ (octets : List ℕ). Tells command (IsAtEnd (Some left_now)) m.0 octets status) (sym written) m.4)

came : (text held_now : List ℕ) (asked status : Status) → status ≢ ReadFault → status ≢ WriteFault → ((status ≡ asked) × Put (Some []) text (Some held_now)) ⊎ IsFailure status
    → ((status ≡ asked) × (held_now ≡ text)) ⊎ (status ≡ NoMemory)
came text held_now asked status no_read no_write (inl all) = inl (all.0, some_is held_now text all.1)
came text held_now asked status no_read no_write (inr (inl fault)) = absurd (no_read fault)
came text held_now asked status no_read no_write (inr (inr (inl fault))) = absurd (no_write fault)
came text held_now asked status no_read no_write (inr (inr (inr memory))) = inr memory

exact_plain : (command : Command) (input held_now : List ℕ) (status : Status) → Gives command (Some input) (Some []) (Some held_now) status → status ≢ ReadFault → status ≢ WriteFault
    → (text : List ℕ) (asked : Status) → Asks command input text asked → ((status ≡ asked) × (held_now ≡ text)) ⊎ (status ≡ NoMemory)
exact_plain command input held_now status gives no_read no_write text asked asks = came text held_now asked status no_read no_write (gives input text asked (is_input command input) asks)

-- by what is equal to the octets, to nothing, and to what the sink holds
module _ (command : Command) (input left left_now held held_now octets : List ℕ) (status : Status) (input_is : left ≡ input) (none : held ≡ []) (octets_are : octets ≡ held_now) where
  pub told_in_memory : Moves command (Some left) (Some left_now) (Some held) (Some held_now) status
      → (read : List ℕ) × (rest : List ℕ) × (input ≡ read ++ rest) × Tells command (IsAtEnd (Some rest)) read octets status
  told_in_memory m = told_plain command input left_now octets status
      (subst (λ (x : List ℕ). Moves command (Some x) (Some left_now) (Some []) (Some octets) status) input_is
      (subst (λ (x : List ℕ). Moves command (Some left) (Some left_now) (Some x) (Some octets) status) none
      (subst (λ (x : List ℕ). Moves command (Some left) (Some left_now) (Some held) (Some x) status) (sym octets_are) m)))

  pub exact_in_memory : Gives command (Some left) (Some held) (Some held_now) status → status ≢ ReadFault → status ≢ WriteFault
      → (text : List ℕ) (asked : Status) → Asks command input text asked → ((status ≡ asked) × (octets ≡ text)) ⊎ (status ≡ NoMemory)
  exact_in_memory gives = exact_plain command input octets status
      (subst (λ (x : List ℕ). Gives command (Some x) (Some []) (Some octets) status) input_is
      (subst (λ (x : List ℕ). Gives command (Some left) (Some x) (Some octets) status) none
      (subst (λ (x : List ℕ). Gives command (Some left) (Some held) (Some x) status) (sym octets_are) gives)))
