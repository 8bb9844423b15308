-- The units that the lines of a step tell: what the event gives, and what the end shows.
use Rattle.std.proofs.Common.{◌≡◌, ◌≢◌, inl, inr, ℕ, false, List, [], ◌++◌, ◌∙◌, ap, append-nil}
use Rattle.std.proofs.lemmas.Bool.{cases_eq}
use Rattle.std.proofs.lemmas.List.Elements.{All-append}
use Rattle.script_journal.specs.Lawful.{Marked, submitted, shown}
use Rattle.script_journal.specs.declared.event.Event.{Event as Told}
use Rattle.script_journal.proofs.Showing.{shown_both, submitted_both}
use Rattle.tp4_flow.specs.declared.step.EndEvent.{EndEvent}
use Rattle.tp4_conn.specs.Table.{Event}
use Rattle.law_tp4_history.specs.Journals.{makes_end, MakesNone}
use Rattle.law_tp4_history.specs.Units.{TellsNone}
use Rattle.law_tp4_history.specs.Lines.{given, shown_in}
use Rattle.tp4_world.specs.Telling.{events_after}
use Rattle.tp4_world.specs.World.{latest}
use Rattle.tp4_world.specs.declared.place.EndAt.{EndAt}
use Rattle.law_tp4_lawful.proofs.Acting.{first_of}
use Rattle.law_tp4_lawful.proofs.ActsRows.{AreTold}
use Rattle.law_tp4_lawful.proofs.ActsTold.{first_gives, first_gives_none, first_makes_none, first_shows_none, lines_give_none, lines_make_none, others_show_none, own_shows}

module _ (ends : List EndAt) (system : ℕ) (address : List ℕ) (reference number : ℕ) (event : Event) (told : List EndEvent) (are : AreTold reference told) (at : latest ends system reference ≡ number) where
  abbrev first : List Told
  first = first_of number event

  abbrev rest : List Told
  rest = events_after ends system address told

  abbrev pub made : List Told
  made = first_of number event ++ events_after ends system address told

  pub made_none : MakesNone made
  made_none = All-append (λ (x : Told). makes_end x ≡ false) first rest (first_makes_none number event) (lines_make_none system address ends reference told are)

  pub given_own : submitted number made ≡ given event
  given_own =
      submitted_both number first rest ∙ ap (λ (us : List Marked). submitted number first ++ us) (lines_give_none system address number ends told) ∙ append-nil (submitted number first)
      ∙ first_gives number event

  pub given_other : (end : ℕ) → end ≢ number → submitted end made ≡ []
  given_other end other =
      submitted_both end first rest ∙ ap (λ (us : List Marked). us ++ submitted end rest) (first_gives_none end number event other) ∙ lines_give_none system address end ends told

  pub shown_own : shown number made ≡ shown_in told
  shown_own =
      shown_both number first rest ∙ ap (λ (us : List Marked). us ++ shown number rest) (first_shows_none number number event) ∙ own_shows system address reference number ends told are at

  pub shown_other : (end : ℕ) → end ≢ number → shown end made ≡ []
  shown_other end other =
      shown_both end first rest ∙ ap (λ (us : List Marked). us ++ shown end rest) (first_shows_none end number event) ∙ others_show_none system address reference number end ends told other are at

  pub tells_none : given event ≡ [] → shown_in told ≡ [] → TellsNone made
  tells_none gave showed end = elim (cases_eq end number) [
    | inl same ↦ (ap (λ (k : ℕ). submitted k made) same ∙ given_own ∙ gave, ap (λ (k : ℕ). shown k made) same ∙ shown_own ∙ showed)
    | inr other ↦ (given_other end other, shown_other end other)
  ]
