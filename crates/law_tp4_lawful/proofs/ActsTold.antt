-- What an end tells in a step is of that end, as far as it shows units, and makes no end.
use Rattle.std.proofs.Common.{◌≡◌, ◌≢◌, ℕ, Bool, false, List, [], ◌∷◌, ◌++◌, refl, sym, ◌∙◌, ap, if◌then◌else◌}
use Rattle.std.proofs.lemmas.Bool.{eq-eqb, ne_eqb}
use Rattle.std.proofs.lemmas.List.Elements.{All-cons, All-nil}
use Rattle.script_journal.specs.Lawful.{Marked, Normal, Expedited, submitted, shown}
use Rattle.script_journal.specs.declared.event.Event.{Event as Told}
use Rattle.tp4_flow.specs.declared.step.EndEvent.{EndEvent}
use Rattle.tp4_flow.specs.declared.step.What.{What}
use Rattle.tp4_flow.specs.declared.step.What.TheVariants as whats
use Rattle.tp4_conn.specs.declared.call.UserCall.TheVariants as calls
use Rattle.tp4_conn.specs.Table.{Event, Called}
use Rattle.law_tp4_history.specs.Journals.{makes_end, MakesNone}
use Rattle.law_tp4_history.specs.Lines.{given, shown_as, shown_in}
use Rattle.tp4_world.specs.Telling.{ends_after, ends_with, event_for, events_after}
use Rattle.tp4_world.specs.World.{latest}
use Rattle.tp4_world.specs.declared.place.EndAt.{EndAt}
use Rattle.law_tp4_lawful.proofs.Acting.{first_of}
use Rattle.law_tp4_lawful.proofs.ActsRows.{AreTold, IsTold}
use Rattle.tpdu.specs.declared.service.EndTold.TheVariants as tells

-- ---- their lines

module _ (system : ℕ) (address : List ℕ) where
  end_stays : (ends : List EndAt) (told : EndEvent) (own : ℕ) (what : What) → IsTold own told.reference what → ends_with ends system told what ≡ ends
  end_stays ends told own (whats.Incoming from partner calling called options octets) is = absurd is
  end_stays ends told own other is = refl

  pub ends_stay : (ends : List EndAt) (own : ℕ) (told : List EndEvent) → AreTold own told → ends_after ends system told ≡ ends
  ends_stay ends own [] are = refl
  ends_stay ends own (told ∷ others) are =
      let same = end_stays ends told own told.what are.0 in
      ap (λ (xs : List EndAt). ends_after xs system others) same ∙ ends_stay ends own others are.1

  no_end : (n own reference : ℕ) (what : What) → IsTold own reference what → makes_end (event_for system address n reference what) ≡ false
  no_end n own reference (whats.Incoming from partner calling called options octets) is = absurd is
  no_end n own reference other is = refl

  pub lines_make_none : (ends : List EndAt) (own : ℕ) (told : List EndEvent) → AreTold own told → MakesNone (events_after ends system address told)
  lines_make_none ends own [] are = All-nil (λ (event : Told). makes_end event ≡ false)
  lines_make_none ends own (told ∷ others) are =
      All-cons (λ (event : Told). makes_end event ≡ false) _ _ (no_end _ own told.reference told.what are.0) (lines_make_none (ends_with ends system told told.what) own others are.1)

  not_given : (end n reference : ℕ) (what : What) (rest : List Told) → submitted end (event_for system address n reference what ∷ rest) ≡ submitted end rest
  not_given end n reference (whats.End (tells.Got octets)) rest = refl
  not_given end n reference other rest = refl

  pub lines_give_none : (end : ℕ) (ends : List EndAt) (told : List EndEvent) → submitted end (events_after ends system address told) ≡ []
  lines_give_none end ends [] = refl
  lines_give_none end ends (told ∷ others) = not_given end _ told.reference told.what _ ∙ lines_give_none end (ends_with ends system told told.what) others

  -- the number of the end at that reference
  module _ (own number : ℕ) where
    number_stays : (ends : List EndAt) (told : EndEvent) → IsTold own told.reference told.what → latest ends system own ≡ number → latest (ends_with ends system told told.what) system own ≡ number
    number_stays ends told is at = ap (λ (xs : List EndAt). latest xs system own) (end_stays ends told own told.what is) ∙ at

    shows_other : (end : ℕ) (ends : List EndAt) (reference : ℕ) (what : What) (rest : List Told) → end ≢ number → IsTold own reference what → latest ends system own ≡ number
        → shown end (event_for system address (latest ends system reference) reference what ∷ rest) ≡ shown end rest
    shows_other end ends reference (whats.End (tells.Got octets)) rest other is at =
        let n : latest ends system reference ≡ number = ap (latest ends system) is ∙ at in
        ap (λ (b : Bool). if b then Normal octets ∷ shown end rest else shown end rest) (ne_eqb (latest ends system reference) end (λ same. other (sym same ∙ n)))
    shows_other end ends reference (whats.End (tells.Urgent octets)) rest other is at =
        let n : latest ends system reference ≡ number = ap (latest ends system) is ∙ at in
        ap (λ (b : Bool). if b then Expedited octets ∷ shown end rest else shown end rest) (ne_eqb (latest ends system reference) end (λ same. other (sym same ∙ n)))
    shows_other end ends reference what rest other is at = refl

    pub others_show_none : (end : ℕ) (ends : List EndAt) (told : List EndEvent) → end ≢ number → AreTold own told → latest ends system own ≡ number
        → shown end (events_after ends system address told) ≡ []
    others_show_none end ends [] other are at = refl
    others_show_none end ends (told ∷ others) other are at =
        let next = number_stays ends told are.0 at in
        shows_other end (ends_with ends system told told.what) told.reference told.what _ other are.0 next ∙ others_show_none end (ends_with ends system told told.what) others other are.1 next

    shows_own : (ends : List EndAt) (reference : ℕ) (what : What) (rest : List Told) → IsTold own reference what → latest ends system own ≡ number
        → shown number (event_for system address (latest ends system reference) reference what ∷ rest) ≡ shown_as what ++ shown number rest
    shows_own ends reference (whats.End (tells.Got octets)) rest is at =
        ap (λ (b : Bool). if b then Normal octets ∷ shown number rest else shown number rest) (eq-eqb (latest ends system reference) number (ap (latest ends system) is ∙ at))
    shows_own ends reference (whats.End (tells.Urgent octets)) rest is at =
        ap (λ (b : Bool). if b then Expedited octets ∷ shown number rest else shown number rest) (eq-eqb (latest ends system reference) number (ap (latest ends system) is ∙ at))
    shows_own ends reference what rest is at = refl

    pub own_shows : (ends : List EndAt) (told : List EndEvent) → AreTold own told → latest ends system own ≡ number → shown number (events_after ends system address told) ≡ shown_in told
    own_shows ends [] are at = refl
    own_shows ends (told ∷ others) are at =
        let next = number_stays ends told are.0 at in
        shows_own (ends_with ends system told told.what) told.reference told.what _ are.0 next
        ∙ ap (λ (us : List Marked). shown_as told.what ++ us) (own_shows (ends_with ends system told told.what) others are.1 next)

-- ---- the lines of a call

one_event : (event : Told) → makes_end event ≡ false → MakesNone (event ∷ [])
one_event event is = All-cons (λ (x : Told). makes_end x ≡ false) event [] is (All-nil (λ (x : Told). makes_end x ≡ false))

pub first_makes_none : (number : ℕ) (event : Event) → MakesNone (first_of number event)
first_makes_none number (Called (calls.Accept options octets)) = All-nil (λ (x : Told). makes_end x ≡ false)
first_makes_none number (Called (calls.Window credit)) = All-nil (λ (x : Told). makes_end x ≡ false)
first_makes_none number (Called call) = one_event _ refl
first_makes_none number other = All-nil (λ (x : Told). makes_end x ≡ false)

pub first_shows_none : (end number : ℕ) (event : Event) → shown end (first_of number event) ≡ []
first_shows_none end number (Called (calls.Accept options octets)) = refl
first_shows_none end number other = refl

pub first_gives : (number : ℕ) (event : Event) → submitted number (first_of number event) ≡ given event
first_gives number (Called (calls.Normal octets)) = ap (λ (b : Bool). if b then Normal octets ∷ [] else []) (eq-eqb number number refl)
first_gives number (Called (calls.Urgent octets)) = ap (λ (b : Bool). if b then Expedited octets ∷ [] else []) (eq-eqb number number refl)
first_gives number other = refl

pub first_gives_none : (end number : ℕ) (event : Event) → end ≢ number → submitted end (first_of number event) ≡ []
first_gives_none end number (Called (calls.Normal octets)) other = ap (λ (b : Bool). if b then Normal octets ∷ [] else []) (ne_eqb number end (λ same. other (sym same)))
first_gives_none end number (Called (calls.Urgent octets)) other = ap (λ (b : Bool). if b then Expedited octets ∷ [] else []) (ne_eqb number end (λ same. other (sym same)))
first_gives_none end number another other = refl
