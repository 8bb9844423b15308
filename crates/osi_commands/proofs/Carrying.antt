-- What a command does is by the command alone; and what comes complete, with the text first.
use Rattle.std.proofs.Common.{◌≡◌, ◌⊎◌, inl, inr, ℕ, List, Option, sym, subst}
use Rattle.osi_base.specs.Ends.{Put}
use Rattle.osi_base.specs.declared.status.Status.{Status}
use Rattle.osi_base.specs.declared.status.Status.TheVariants.{Done, NoMemory}
use Rattle.osi_commands.specs.Commands.{Does}
use Rattle.osi_commands.specs.declared.command.Command.{Command}

pub by_command : (command other : Command) (left left_now held held_now : Option (List ℕ)) (reads reads_now writes writes_now : ℕ) (status : Status) → command ≡ other
    → Does other left left_now held held_now reads reads_now writes writes_now status → Does command left left_now held held_now reads reads_now writes writes_now status
by_command command other left left_now held held_now reads reads_now writes writes_now status same does =
    subst (λ (c : Command). Does c left left_now held held_now reads reads_now writes writes_now status) (sym same) does

pub text_first : (asks : List ℕ → Type 0) (held held_now : Option (List ℕ)) (status : Status) → ((status ≡ Done) × (text : List ℕ) × asks text × Put held text held_now) ⊎ (status ≡ NoMemory)
    → ((text : List ℕ) × ((status ≡ Done) × asks text) × Put held text held_now) ⊎ (status ≡ NoMemory)
text_first asks held held_now status (inl all) = inl (all.1, (all.0, all.2), all.3)
text_first asks held held_now status (inr none) = inr none
