-- The texts of a line tell what kinds of cells it has: by the word in front, and further where a word is shared.
use Rattle.std.proofs.Common.{◌≡◌, ℕ, ◌<◌, ◌≤◌, ◌^◌, Bool, true, false, List, [], ◌∷◌, map, refl, ap, arith}
use Rattle.std.specs.Prelude.{◌&&◌, not, if◌then◌else◌, codes, nat_lt, slice_index}
use Rattle.std.specs.Fmt.{decimal}
use Rattle.std.specs.Str.Parse.{AllDigits}
use Rattle.std.proofs.lemmas.Bool.Decides.{nat_tests}
use Rattle.std.proofs.lemmas.Fmt.{digits_decimal, decimal_nonempty}
use Rattle.std.proofs.lemmas.Str.Parse.{numerals_by_value, tells_digits, digit_at}
use Rattle.script_lines.specs.Field.{is_word, is_name}
use Rattle.script_lines.specs.Tags.{Tags, AreNames, name_at}
use Rattle.tpdu.specs.declared.service.Options.{Options}
use Rattle.script_journal.specs.declared.event.Event.{Event}
use Rattle.script_journal.specs.declared.event.Event.TheVariants as events
use Rattle.tpdu.specs.declared.service.GoneCause.TheVariants as gone
use Rattle.script_journal.specs.declared.cause.Refused.TheVariants as refused
use Rattle.script_journal.specs.declared.cause.Settled.TheVariants as settled
use Rattle.script_journal.specs.Told.{cells_of, texts_of}
use Rattle.script_journal.specs.CauseWords.{size_cell}
use Rattle.script_journal.specs.Cells.{Cell, Word, Number, Preferred, System, Lan, Digits, Octets, cell_text}
use Rattle.script_journal.specs.Injective.{AreTold, IsTold}
use Rattle.tpdu.specs.declared.service.EndTold.TheVariants as tells
use Rattle.osi_base.specs.declared.note.Note.TheVariants as notes

pub data Kind : Type 0 where
  OfWord : Kind
  OfNumber : Kind
  OfPreferred : Kind
  OfSystem : Kind
  OfLan : Kind
  OfDigits : Kind
  OfOctets : Kind

abbrev pub kind : Cell → Kind
kind (Word text) = OfWord
kind (Number number) = OfNumber
kind (Preferred size) = OfPreferred
kind (System system) = OfSystem
kind (Lan lan) = OfLan
kind (Digits octets) = OfDigits
kind (Octets octets) = OfOctets

-- the kinds of the cells behind a word, by their texts
abbrev Shape : Type 0
Shape = List ℕ × (List (List ℕ) → List Kind)

these : List Kind → List (List ℕ) → List Kind
these kinds texts = kinds

gone_shape : List (List ℕ) → List Kind
gone_shape (end ∷ cause ∷ texts) = OfNumber ∷ (if nat_lt 57 (slice_index cause 0) then OfWord else OfNumber) ∷ OfOctets ∷ []
gone_shape texts = []

drop_shape : List (List ℕ) → List Kind
drop_shape (first ∷ texts) = if is_word (codes "frame") first then OfWord ∷ OfSystem ∷ [] else OfSystem ∷ OfWord ∷ []
drop_shape texts = []

inject_shape : List (List ℕ) → List Kind
inject_shape (first ∷ []) = OfSystem ∷ []
inject_shape texts = OfWord ∷ OfSystem ∷ []

words_shape : List (List ℕ) → List Kind
words_shape texts = map (λ text. OfWord) texts

size_kind : List ℕ → Kind
size_kind size = if nat_lt 57 (slice_index size 0) then OfPreferred else OfNumber

agreed : Kind → List Kind
agreed size = OfNumber ∷ OfWord ∷ size ∷ OfWord ∷ OfWord ∷ OfOctets ∷ []

agreed_shape : List (List ℕ) → List Kind
agreed_shape (end ∷ format ∷ size ∷ texts) = agreed (size_kind size)
agreed_shape texts = []

indicated : Kind → List Kind
indicated size = OfNumber ∷ OfSystem ∷ OfNumber ∷ OfDigits ∷ OfNumber ∷ OfOctets ∷ OfDigits ∷ OfOctets ∷ OfWord ∷ size ∷ OfWord ∷ OfWord ∷ OfOctets ∷ []

indicated_shape : List (List ℕ) → List Kind
indicated_shape (end ∷ system ∷ reference ∷ calling ∷ partner ∷ from ∷ called ∷ to ∷ format ∷ size ∷ texts) = indicated (size_kind size)
indicated_shape texts = []

shapes : List Shape
shapes =
    (codes "tick", these (OfNumber ∷ []))
    ∷ (codes "connect", these (OfNumber ∷ OfSystem ∷ OfNumber ∷ OfDigits ∷ OfOctets ∷ OfDigits ∷ OfOctets ∷ OfOctets ∷ []))
    ∷ (codes "incoming", indicated_shape)
    ∷ (codes "accept", agreed_shape)
    ∷ (codes "confirm", agreed_shape)
    ∷ (codes "data", these (OfNumber ∷ OfOctets ∷ []))
    ∷ (codes "got", these (OfNumber ∷ OfOctets ∷ []))
    ∷ (codes "expedite", these (OfNumber ∷ OfOctets ∷ []))
    ∷ (codes "urgent", these (OfNumber ∷ OfOctets ∷ []))
    ∷ (codes "refuse", these (OfNumber ∷ OfOctets ∷ []))
    ∷ (codes "disconnect", these (OfNumber ∷ OfOctets ∷ []))
    ∷ (codes "gone", gone_shape)
    ∷ (codes "window", these (OfNumber ∷ OfNumber ∷ []))
    ∷ (codes "held", these (OfNumber ∷ OfWord ∷ OfNumber ∷ []))
    ∷ (codes "no", words_shape)
    ∷ (codes "sent", these (OfSystem ∷ OfDigits ∷ OfOctets ∷ []))
    ∷ (codes "unit", these (OfSystem ∷ OfDigits ∷ OfOctets ∷ []))
    ∷ (codes "frame", these (OfNumber ∷ OfLan ∷ OfSystem ∷ OfDigits ∷ OfNumber ∷ []))
    ∷ (codes "drop", drop_shape)
    ∷ (codes "deliver", these (OfNumber ∷ OfSystem ∷ []))
    ∷ (codes "nosuch", these (OfNumber ∷ OfSystem ∷ []))
    ∷ (codes "late", these (OfNumber ∷ OfSystem ∷ []))
    ∷ (codes "notthere", these (OfNumber ∷ OfSystem ∷ []))
    ∷ (codes "notours", these (OfNumber ∷ OfSystem ∷ []))
    ∷ (codes "settled", these (OfNumber ∷ []))
    ∷ (codes "stopped", these (OfNumber ∷ []))
    ∷ (codes "inject", inject_shape)
    ∷ (codes "discard", these (OfSystem ∷ OfDigits ∷ OfNumber ∷ []))
    ∷ (codes "report", these (OfSystem ∷ OfDigits ∷ OfNumber ∷ []))
    ∷ (codes "alien", these (OfSystem ∷ []))
    ∷ (codes "badhello", these (OfSystem ∷ OfWord ∷ []))
    ∷ (codes "hellofull", these (OfSystem ∷ []))
    ∷ (codes "hello", these (OfSystem ∷ OfWord ∷ OfDigits ∷ []))
    ∷ (codes "redirect", these (OfSystem ∷ OfDigits ∷ OfDigits ∷ []))
    ∷ (codes "badtpdu", these (OfSystem ∷ OfWord ∷ OfNumber ∷ []))
    ∷ (codes "unknown", these (OfSystem ∷ OfWord ∷ []))
    ∷ (codes "restart", these (OfSystem ∷ []))
    ∷ (codes "silent", these (OfSystem ∷ []))
    ∷ (codes "send", these (OfSystem ∷ OfOctets ∷ OfDigits ∷ OfOctets ∷ OfOctets ∷ []))
    ∷ (codes "datagram", these (OfSystem ∷ OfDigits ∷ OfOctets ∷ OfOctets ∷ OfOctets ∷ []))
    ∷ (codes "badud", these (OfSystem ∷ OfWord ∷ OfNumber ∷ []))
    ∷ (codes "nouser", these (OfSystem ∷ []))
    ∷ (codes "joined", these (OfNumber ∷ OfNumber ∷ []))
    ∷ []

by_shape : List Shape → List ℕ → List (List ℕ) → List Kind
by_shape [] word texts = []
by_shape (shape ∷ more) word texts = if is_word shape.0 word then OfWord ∷ shape.1 texts else by_shape more word texts

pub shape_of : List (List ℕ) → List Kind
shape_of [] = []
shape_of (word ∷ texts) = by_shape shapes word texts

last_not : (a b : Bool) → a && not b ≡ true → b ≡ false
last_not true true is = absurd (cc)
last_not true false is = refl
last_not false b is = absurd (cc)

not_frame : (name : List ℕ) → is_name name ≡ true → is_word (codes "frame") name ≡ false
unfolding is_name
not_frame [] named = absurd (cc)
not_frame (first ∷ others) named = last_not _ (is_word (codes "frame") (first ∷ others)) named

not_above : (c : ℕ) → c ≤ 57 → nat_lt 57 c ≡ false
not_above c le = grind (arith, nat_tests)

decimal_first : (n : ℕ) → n < 2 ^ 64 → nat_lt 57 (slice_index (decimal n) 0) ≡ false
decimal_first n fits =
    let digits = digits_decimal (numerals_by_value (AllDigits 10) tells_digits) n fits in
    let range = digit_at (decimal n) 0 digits (decimal_nonempty n fits) in
    not_above (slice_index (decimal n) 0) range.1

-- the text of a size begins with a digit, or with `p`
size_shaped : (tags : Tags) (o : Options) → IsTold tags (size_cell o) → size_kind (cell_text tags (size_cell o)) ≡ kind (size_cell o)
unfolding size_kind
size_shaped tags o told = by o.preferred o.size told
  where
    by : (preferred : Bool) (size : ℕ) → IsTold tags (if preferred then Preferred size else Number size)
        → size_kind (cell_text tags (if preferred then Preferred size else Number size)) ≡ kind (if preferred then Preferred size else Number size)
    by true size t = refl
    by false size t = rw (decimal_first size t) refl

-- the texts of an event tell the kinds of its cells
pub shaped : (tags : Tags) (event : Event) → AreNames tags.systems → AreTold tags (cells_of event) → shape_of (texts_of tags event) ≡ map kind (cells_of event)
unfolding shape_of by_shape shapes these gone_shape drop_shape inject_shape words_shape agreed agreed_shape indicated indicated_shape
shaped tags (events.Tick now) names told = refl
shaped tags (events.Connect asked) names told = refl
shaped tags (events.Incoming heard) names told = ap (λ (k : Kind). OfWord ∷ indicated k) (size_shaped tags heard.options told.1.1.1.1.1.1.1.1.1.1.0)
shaped tags (events.End end (tells.Accept options octets)) names told = ap (λ (k : Kind). OfWord ∷ agreed k) (size_shaped tags options told.1.1.1.0)
shaped tags (events.End end (tells.Confirm options octets)) names told = ap (λ (k : Kind). OfWord ∷ agreed k) (size_shaped tags options told.1.1.1.0)
shaped tags (events.Data end octets) names told = refl
shaped tags (events.End end (tells.Got octets)) names told = refl
shaped tags (events.Expedite end octets) names told = refl
shaped tags (events.End end (tells.Urgent octets)) names told = refl
shaped tags (events.Refuse end octets) names told = refl
shaped tags (events.Disconnect end octets) names told = refl
shaped tags (events.End end (tells.Gone (gone.Reason reason) octets)) names told = rw (decimal_first reason told.1.1.0) refl
shaped tags (events.End end (tells.Gone gone.Exhausted octets)) names told = refl
shaped tags (events.End end (tells.Gone gone.Inactive octets)) names told = refl
shaped tags (events.End end (tells.Gone gone.Protocol octets)) names told = refl
shaped tags (events.End end (tells.Gone gone.AnswerTime octets)) names told = refl
shaped tags (events.End end (tells.Window credit)) names told = refl
shaped tags (events.End end (tells.Held kind number)) names told = refl
shaped tags (events.No refused.NoSuchEnd) names told = refl
shaped tags (events.No refused.EmptyUnit) names told = refl
shaped tags (events.No refused.TooLong) names told = refl
shaped tags (events.No refused.NoExpedited) names told = refl
shaped tags (events.No refused.QueueFull) names told = refl
shaped tags (events.No refused.RefsSpent) names told = refl
shaped tags (events.No refused.Silent) names told = refl
shaped tags (events.No refused.NoRoute) names told = refl
shaped tags (events.No refused.Full) names told = refl
shaped tags (events.No refused.IdsSpent) names told = refl
shaped tags (events.No refused.Relayed) names told = refl
shaped tags (events.No (refused.WrongState state)) names told = refl
shaped tags (events.No refused.Ended) names told = refl
shaped tags (events.Sent system to octets) names told = refl
shaped tags (events.Unit system from octets) names told = refl
shaped tags (events.Net (notes.Frame number lan system snpa length)) names told = refl
shaped tags (events.Net (notes.DropFrame system)) names told = refl
shaped tags (events.Net (notes.Discard system reason place)) names told = refl
shaped tags (events.Net (notes.Report system reason place)) names told = refl
shaped tags (events.Net (notes.Alien system)) names told = refl
shaped tags (events.Net (notes.BadHello system cause)) names told = refl
shaped tags (events.Net (notes.HelloFull system)) names told = refl
shaped tags (events.Net (notes.Hello system kind snpa)) names told = refl
shaped tags (events.Net (notes.Redirect system address snpa)) names told = refl
shaped tags (events.Dropped system cause) names told = rw (not_frame (name_at tags.systems system) (names.named system told.1.0)) refl
shaped tags (events.Deliver number system) names told = refl
shaped tags (events.NoSuch number system) names told = refl
shaped tags (events.Late number system) names told = refl
shaped tags (events.NotThere number system) names told = refl
shaped tags (events.NotOurs number system) names told = refl
shaped tags (events.Settle (settled.Settled count)) names told = refl
shaped tags (events.Settle (settled.Stopped count)) names told = refl
shaped tags (events.Inject system) names told = refl
shaped tags (events.InjectNotThere system) names told = refl
shaped tags (events.BadTpdu system cause place) names told = refl
shaped tags (events.Unknown system kind) names told = refl
shaped tags (events.Restart system) names told = refl
shaped tags (events.Silent system) names told = refl
shaped tags (events.Send system selector to called octets) names told = refl
shaped tags (events.Datagram system from calling called octets) names told = refl
shaped tags (events.BadUd system cause place) names told = refl
shaped tags (events.NoUser system) names told = refl
shaped tags (events.Joined inbound outbound) names told = refl
