-- A word that passes the test of a command asks for it, and words that pass none ask for none; and what comes complete, with the status first.
use Rattle.std.proofs.Common.{◌≡◌, ◌⊎◌, inl, inr, ℕ, Bool, true, false, if◌then◌else◌, List, [], ◌∷◌, Option, None, Some, refl, sym, ◌∙◌, ap}
use Rattle.std.specs.Prelude.{codes}
use Rattle.std.specs.Str.{bytes_eq}
use Rattle.std.proofs.lemmas.Bool.{false≢true}
use Rattle.std.proofs.lemmas.Slice.Eq.{bytes_eq-Decides}
use Rattle.osi_base.specs.Ends.{Put}
use Rattle.osi_base.specs.declared.status.Status.{Status}
use Rattle.osi_base.specs.declared.status.Status.TheVariants.{Done, NoMemory}
use Rattle.script_storm.specs.declared.request.Storm.{Storm}
use Rattle.osi_commands.specs.Commands.{IsCalled, IsStorm}
use Rattle.law_commands.specs.EachCommand.{is_decode, is_frames, is_run, is_word, kind_of}
use Rattle.osi_kinds.specs.Kinds.{name_of}
use Rattle.osi_commands.specs.declared.command.Command.{Command}
use Rattle.osi_commands.specs.declared.command.Command.TheVariants as commands
use Rattle.osi_kinds.specs.declared.kinds.Kind.{Kind}
use Rattle.osi_kinds.specs.declared.kinds.Kind.TheVariants as kinds

pub word_is : (name : List ℕ) (words : List (List ℕ)) → is_word name words ≡ true → words ≡ name ∷ []
word_is name [] h = absurd (false≢true h)
word_is name (word ∷ []) h = ap (λ (w : List ℕ). w ∷ []) ((bytes_eq-Decides word name).0 h)
word_is name (word ∷ other ∷ words) h = absurd (false≢true h)

pick : (found : Bool) (one other : Kind) (rest : Option Kind) → (if found then Some one else rest) ≡ Some other → ((found ≡ true) × (one ≡ other)) ⊎ (rest ≡ Some other)
pick true one other rest h = inl (refl, cc)
pick false one other rest h = inr h

one_word : (word : List ℕ) (one kind : Kind) → bytes_eq word (name_of one) ≡ true → one ≡ kind → word ∷ [] ≡ name_of kind ∷ []
one_word word one kind is same = ap (λ (w : List ℕ). w ∷ []) ((bytes_eq-Decides word (name_of one)).0 is) ∙ ap (λ (k : Kind). name_of k ∷ []) same

pub kind_is : (words : List (List ℕ)) (kind : Kind) → kind_of words ≡ Some kind → words ≡ name_of kind ∷ []
kind_is [] kind h = absurd (cc)
kind_is (word ∷ []) kind h = elim (pick (bytes_eq word (codes "datagrams")) kinds.Datagrams kind _ h) [
  | inl is ↦ one_word word kinds.Datagrams kind is.0 is.1
  | inr h ↦ elim (pick (bytes_eq word (codes "inactive")) kinds.Inactive kind _ h) [
    | inl is ↦ one_word word kinds.Inactive kind is.0 is.1
    | inr h ↦ elim (pick (bytes_eq word (codes "relay")) kinds.Relay kind None h) [
      | inl is ↦ one_word word kinds.Relay kind is.0 is.1
      | inr h ↦ absurd (cc)
    ]
  ]
]
kind_is (word ∷ other ∷ words) kind h = absurd (cc)

named_kind : (kind : Kind) → kind_of (name_of kind ∷ []) ≡ Some kind
named_kind kinds.Datagrams = refl
named_kind kinds.Inactive = refl
named_kind kinds.Relay = refl

no_kind : (kind : Kind) → None ≡ Some kind → ⊥
no_kind kind h = absurd (cc)

pub no_command : (words : List (List ℕ)) → is_run words ≡ false → is_frames words ≡ false → is_decode words ≡ false → kind_of words ≡ None → ((storm : Storm) → IsStorm words storm → ⊥)
    → (command : Command) → IsCalled words command → ⊥
no_command words run frames decode kinds storm commands.Run is = false≢true (sym run ∙ ap (λ (w : List (List ℕ)). is_run w) is)
no_command words run frames decode kinds storm commands.Frames is = false≢true (sym frames ∙ ap (λ (w : List (List ℕ)). is_frames w) is)
no_command words run frames decode kinds storm commands.Decode is = false≢true (sym decode ∙ ap (λ (w : List (List ℕ)). is_decode w) is)
no_command words run frames decode kinds storm (commands.Storm asked) is = storm asked is
no_command words run frames decode kinds storm (commands.Script kind) is = no_kind kind (sym kinds ∙ ap (λ (w : List (List ℕ)). kind_of w) is ∙ named_kind kind)

-- the status first
pub status_first : (asks : List ℕ → Type 0) (held held_now : Option (List ℕ)) (status : Status) → ((text : List ℕ) × ((status ≡ Done) × asks text) × Put held text held_now) ⊎ (status ≡ NoMemory)
    → ((status ≡ Done) × (text : List ℕ) × asks text × Put held text held_now) ⊎ (status ≡ NoMemory)
status_first asks held held_now status (inl all) = inl (all.1.0, all.0, all.1.1, all.2)
status_first asks held held_now status (inr none) = inr none
