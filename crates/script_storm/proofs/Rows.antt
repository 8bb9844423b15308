-- Each line of a word is read after the set-up: its fields stand apart, each has the form that the row of its word asks for,
-- and it declares nothing.
use Rattle.std.proofs.Common.{◌≡◌, ℕ, zero, suc, ◌+◌, ◌*◌, ◌<◌, ◌≤◌, Bool, true, false, if◌then◌else◌, List, [], ◌∷◌, ◌++◌, length, replicate, refl, ap, sym, ◌∙◌, arith, Some, None, Ok, codes, append_assoc, add-one}
use Rattle.std.specs.Prelude.{nat_lt, not, position, slice_index}
use Rattle.std.specs.Fmt.{decimal}
use Rattle.std.specs.List.{list_all}
use Rattle.std.proofs.lemmas.Bool.Decides.{nat_tests}
use Rattle.std.proofs.lemmas.List.{length-replicate}
use Rattle.hex.specs.Hex.{encode_lower, decode_pairs, lower_digits, IsBytes}
use Rattle.hex.proofs.HexLemmas.{length-encode_with}
use Rattle.script_lines.specs.declared.words.Dialect.{Dialect}
use Rattle.script_lines.specs.declared.words.Word.{Word}
use Rattle.script_lines.specs.declared.words.Word.TheVariants as words
use Rattle.script_lines.specs.declared.line.Line.{Line}
use Rattle.script_lines.specs.declared.line.Line.TheVariants as lines
use Rattle.tpdu.specs.declared.tpdu.Format.{Format}
use Rattle.tpdu.specs.declared.tpdu.Format.TheVariants as formats
use Rattle.tpdu.specs.declared.service.Options.{Options}
use Rattle.script_lines.specs.Field.{fields_of, is_name, number_of, octets_of, is_printable}
use Rattle.script_lines.specs.Grammar.{Reading, line_read, text_read, worded_read, is_idle}
use Rattle.script_lines.specs.Injecting.{IsNoInjection}
use Rattle.script_lines.specs.Known.{Declared, is_second}
use Rattle.script_lines.specs.Reading.{system_of, end_system_of, size_of, selector_of}
use Rattle.script_lines.specs.Table.{row_of, word_of}
use Rattle.script_lines.proofs.Printing.{all_printable}
use Rattle.script_storm.specs.Line.{accept_line, number_back}
use Rattle.script_storm.specs.Read.{RunsStorms}
use Rattle.script_storm.proofs.Fields.{AreVisible, joined, fields_joined, printable_joined, size_of_all, size_joined, is_visible}
use Rattle.script_storm.proofs.Numbers.{decimal_visible, decimal_short, number_read, credit_read, hex_visible, hex_read}
use Rattle.script_storm.proofs.SetUp.{set_up_names}

abbrev reading : Dialect → Line → Reading
reading dialect line = record { line = line; names = set_up_names dialect }

-- the line is read after the set-up, and declares and injects nothing
abbrev pub IsRead : Dialect → List ℕ → Type 0
IsRead dialect text = (line : Line) × (line_read (set_up_names dialect) text ≡ Ok (reading dialect line)) × IsNoInjection line

text_is : (names : Declared) (text : List ℕ) (word : Word) (fields : List (List ℕ)) (read : Reading) → nat_lt 40000 (length text) ≡ false
    → position (λ octet. not (is_printable octet)) text ≡ None → is_idle text ≡ false → fields_of text ≡ (row_of word).text ∷ fields
    → word_of names.dialect (row_of word).text ≡ Some word → ((past column : ℕ) → worded_read names past column fields (Some word) ≡ Ok read)
    → line_read names text ≡ Ok read
unfolding line_read text_read
text_is names text word fields read short printable idle parts named each = rw (short, printable, idle, parts, named) (each _ _)

is_short : (count : ℕ) → count ≤ 40000 → nat_lt 40000 count ≡ false
is_short count few = grind (arith, nat_tests)

row_read : (names : Declared) (word : Word) (fields : List (List ℕ)) (read : Reading) → AreVisible ((row_of word).text ∷ fields)
    → size_of_all ((row_of word).text ∷ fields) ≤ 40000 → is_idle (joined ((row_of word).text ∷ fields)) ≡ false
    → word_of names.dialect (row_of word).text ≡ Some word → ((past column : ℕ) → worded_read names past column fields (Some word) ≡ Ok read)
    → line_read names (joined ((row_of word).text ∷ fields)) ≡ Ok read
row_read names word fields read visible few idle named each =
    let size = size_joined ((row_of word).text ∷ fields) in
    text_is names (joined ((row_of word).text ∷ fields)) word fields read
    (is_short (length (joined ((row_of word).text ∷ fields))) (omega arith))
    (all_printable (joined ((row_of word).text ∷ fields)) (printable_joined ((row_of word).text ∷ fields) visible))
    idle (fields_joined (row_of word).text fields visible) named each

-- ---- fields

a_is_end : (dialect : Dialect) → end_system_of (set_up_names dialect) (codes "a") ≡ Ok 0
unfolding end_system_of is_name
a_is_end dialect = refl

b_is_end : (dialect : Dialect) → end_system_of (set_up_names dialect) (codes "b") ≡ Ok 1
unfolding end_system_of is_name
b_is_end dialect = refl

aa_read : selector_of (codes "aa") ≡ Ok (170 ∷ [])
unfolding selector_of octets_of decode_pairs
aa_read = refl

bb_read : selector_of (codes "bb") ≡ Ok (187 ∷ [])
unfolding selector_of octets_of decode_pairs
bb_read = refl

size_read : (second : Bool) → size_of second (codes "128") ≡ Ok (record { octets = 128; preferred = false })
unfolding size_of number_of
size_read true = refl
size_read false = refl

none_read : octets_of (codes "-") ≡ Ok []
unfolding octets_of
none_read = refl

-- a system by its name
pub record IsSystem (dialect : Dialect) (name : List ℕ) (number : ℕ) : Type 0 where
  pub visible : list_all is_visible name ≡ true
  pub short : length name ≤ 8
  pub found : system_of (set_up_names dialect) name ≡ Ok number

pub a_is : (dialect : Dialect) → IsSystem dialect (codes "a") 0
unfolding is_name
a_is dialect = record { visible = refl; short = omega arith; found = refl }

pub b_is : (dialect : Dialect) → IsSystem dialect (codes "b") 1
unfolding is_name
b_is dialect = record { visible = refl; short = omega arith; found = refl }

pub r_is : (dialect : Dialect) → IsSystem dialect (codes "r") 2
unfolding is_name
r_is dialect = record { visible = refl; short = omega arith; found = refl }

bytes_same : (count octet i : ℕ) → octet < 256 → slice_index (replicate count octet) i < 256
bytes_same zero octet i small = omega arith
bytes_same (suc count) octet zero small = small
bytes_same (suc count) octet (suc i) small = bytes_same count octet i small

pub are_bytes : (octet count : ℕ) → octet < 256 → IsBytes (octet ∷ replicate count octet)
are_bytes octet count small i = bytes_same (suc count) octet i small

-- a blank that ends what stands before is one between two fields
pub apart : (word field next : List ℕ) → word ++ field ++ codes " " ++ next ≡ word ++ (field ++ 32 ∷ next)
apart word field next = append_assoc (word ++ field) (codes " ") next ∙ append_assoc word field (32 ∷ next)

abbrev options : Format → Options
options format = record { format = format; size = 128; preferred = false; expedited = true; sum = true }

pub back_small : (count back : ℕ) → count < 1000000000 → number_back count back < 1000000000
back_small count back small = grind (arith, nat_tests)

-- ---- rows

module _ (dialect : Dialect) (runs : RunsStorms dialect) where
  pub tick_read : IsRead dialect (codes "tick")
  tick_read =
      let named = runs.1.1.1.1.1.1.1.1.1.1.1.1.0 in
      (lines.Tick, row_read (set_up_names dialect) words.Tick [] (reading dialect lines.Tick) (refl, tt) (omega arith) refl named (λ past column. refl), tt)

  pub accept_read : (end : ℕ) → end < 1000000000 → IsRead dialect (accept_line end)
  accept_read end small =
      let named = runs.1.1.1.1.1.1.1.1.0 in
      let line = lines.Accept end (options formats.Extended) [] in
      let few = decimal_short end small in (
        line,
        row_read (set_up_names dialect) words.Accept (decimal end ∷ codes "extended" ∷ codes "128" ∷ codes "exp" ∷ codes "sum" ∷ codes "-" ∷ []) (reading dialect line)
            (refl, (decimal_visible end small, (refl, (refl, (refl, (refl, (refl, tt))))))) (omega arith) refl named
            (λ past column. let number = number_read end small in rw (number, size_read (is_second dialect), none_read) refl),
        tt,
      )

  connect_normal : IsRead dialect (codes "connect a aa b bb " ++ codes "normal" ++ codes " 128 exp sum -")
  connect_normal =
      let named = runs.1.1.1.1.1.1.1.0 in
      let line = lines.Connect 0 (170 ∷ []) 1 (187 ∷ []) (options formats.Normal) [] in (
        line,
        row_read (set_up_names dialect) words.Connect
            (codes "a" ∷ codes "aa" ∷ codes "b" ∷ codes "bb" ∷ codes "normal" ∷ codes "128" ∷ codes "exp" ∷ codes "sum" ∷ codes "-" ∷ []) (reading dialect line)
            (refl, (refl, (refl, (refl, (refl, (refl, (refl, (refl, (refl, (refl, tt)))))))))) (omega arith) refl named
            (λ past column. rw (a_is_end dialect, aa_read, b_is_end dialect, bb_read, size_read (is_second dialect), none_read) refl),
        tt,
      )

  connect_extended : IsRead dialect (codes "connect a aa b bb " ++ codes "extended" ++ codes " 128 exp sum -")
  connect_extended =
      let named = runs.1.1.1.1.1.1.1.0 in
      let line = lines.Connect 0 (170 ∷ []) 1 (187 ∷ []) (options formats.Extended) [] in (
        line,
        row_read (set_up_names dialect) words.Connect
            (codes "a" ∷ codes "aa" ∷ codes "b" ∷ codes "bb" ∷ codes "extended" ∷ codes "128" ∷ codes "exp" ∷ codes "sum" ∷ codes "-" ∷ []) (reading dialect line)
            (refl, (refl, (refl, (refl, (refl, (refl, (refl, (refl, (refl, (refl, tt)))))))))) (omega arith) refl named
            (λ past column. rw (a_is_end dialect, aa_read, b_is_end dialect, bb_read, size_read (is_second dialect), none_read) refl),
        tt,
      )

  pub connect_by : (format : Bool) → IsRead dialect (codes "connect a aa b bb " ++ (if format then codes "normal" else codes "extended") ++ codes " 128 exp sum -")
  connect_by true = connect_normal
  connect_by false = connect_extended

  -- of a line with an end and octets
  pub units_read : (octet : ℕ) (count end : ℕ) → octet < 256 → count < 300 → end < 1000000000
      → IsRead dialect (codes "data " ++ decimal end ++ codes " " ++ encode_lower (octet ∷ replicate count octet))
  units_read octet count end small few below =
      let named = runs.1.1.1.1.1.1.1.1.1.0 in
      let octets = octet ∷ replicate count octet in
      let bytes = are_bytes octet count small in
      let line = lines.Data end octets in
      let short = decimal_short end below in
      let digits : length (encode_lower octets) ≡ 2 * length octets = length-encode_with lower_digits octets in
      let many : length octets ≡ count + 1 = ap suc (length-replicate count octet) ∙ sym (add-one count) in
      let read = row_read (set_up_names dialect) words.Data (decimal end ∷ encode_lower octets ∷ []) (reading dialect line)
      (refl, (decimal_visible end below, (hex_visible octets bytes, tt))) (omega arith) refl named
      (λ past column. let number = number_read end below in let unit = hex_read octet (replicate count octet) bytes in rw (number, unit) refl) in
      rw (apart (codes "data ") (decimal end) (encode_lower octets)) (line, read, tt)

  pub expedite_read : (octet end : ℕ) → octet < 256 → end < 1000000000 → IsRead dialect (codes "expedite " ++ decimal end ++ codes " " ++ encode_lower (octet ∷ []))
  expedite_read octet end small below =
      let named = runs.1.1.1.1.1.1.1.1.1.1.0 in
      let octets = octet ∷ [] in
      let bytes = are_bytes octet 0 small in
      let line = lines.Expedite end octets in
      let short = decimal_short end below in
      let digits : length (encode_lower octets) ≡ 2 = length-encode_with lower_digits octets in
      let read = row_read (set_up_names dialect) words.Expedite (decimal end ∷ encode_lower octets ∷ []) (reading dialect line)
      (refl, (decimal_visible end below, (hex_visible octets bytes, tt))) (omega arith) refl named
      (λ past column. let number = number_read end below in let unit = hex_read octet [] bytes in rw (number, unit) refl) in
      rw (apart (codes "expedite ") (decimal end) (encode_lower octets)) (line, read, tt)

  pub disconnect_read : (end : ℕ) → end < 1000000000 → IsRead dialect (codes "disconnect " ++ decimal end ++ codes " -")
  disconnect_read end small =
      let named = runs.1.1.1.1.1.1.1.1.1.1.1.1.1.0 in
      let line = lines.Disconnect end [] in
      let few = decimal_short end small in (
        line,
        row_read (set_up_names dialect) words.Disconnect (decimal end ∷ codes "-" ∷ []) (reading dialect line)
            (refl, (decimal_visible end small, (refl, tt))) (omega arith) refl named
            (λ past column. let number = number_read end small in rw (number, none_read) refl),
        tt,
      )

  pub refuse_read : (end : ℕ) → end < 1000000000 → IsRead dialect (codes "refuse " ++ decimal end ++ codes " -")
  refuse_read end small =
      let named = runs.1.1.1.1.1.1.1.1.1.1.1.1.1.1.0 in
      let line = lines.Refuse end [] in
      let few = decimal_short end small in (
        line,
        row_read (set_up_names dialect) words.Refuse (decimal end ∷ codes "-" ∷ []) (reading dialect line)
            (refl, (decimal_visible end small, (refl, tt))) (omega arith) refl named
            (λ past column. let number = number_read end small in rw (number, none_read) refl),
        tt,
      )

  pub window_read : (credit end : ℕ) → credit < 256 → end < 1000000000 → IsRead dialect (codes "window " ++ decimal end ++ codes " " ++ decimal credit)
  window_read credit end low small =
      let named = runs.1.1.1.1.1.1.1.1.1.1.1.1.1.1.1.0 in
      let line = lines.Window end credit in
      let short = decimal_short end small in
      let few = decimal_short credit (omega arith) in
      let read = row_read (set_up_names dialect) words.Window (decimal end ∷ decimal credit ∷ []) (reading dialect line)
      (refl, (decimal_visible end small, (decimal_visible credit (omega arith), tt))) (omega arith) refl named
      (λ past column. let number = number_read end small in let granted = credit_read credit low in rw (number, granted) refl) in
      rw (apart (codes "window ") (decimal end) (decimal credit)) (line, read, tt)

  pub deliver_read : (system : List ℕ) (number frame : ℕ) → IsSystem dialect system number → frame < 1000000000 → IsRead dialect (codes "deliver " ++ decimal frame ++ codes " " ++ system)
  deliver_read system number frame is small =
      let named = runs.1.1.1.1.1.1.1.1.1.1.1.0 in
      let line = lines.Deliver frame number in
      let short = decimal_short frame small in
      let few = is.short in
      let read = row_read (set_up_names dialect) words.Deliver (decimal frame ∷ system ∷ []) (reading dialect line)
      (refl, (decimal_visible frame small, (is.visible, tt))) (omega arith) refl named
      (λ past column. let shown = number_read frame small in let found = is.found in rw (shown, found) refl) in
      rw (apart (codes "deliver ") (decimal frame) system) (line, read, tt)
