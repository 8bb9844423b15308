-- The fields of a line as the code lends them, and lists that are written one member after another.
use Rattle.std.specs.Prelude.{ℕ, Bool, true, false, List, [], ◌∷◌, ◌++◌, flat_map}
use Rattle.std.specs.Fmt.{decimal}
use Rattle.hex.specs.Hex.{encode_lower}
use Rattle.pdu_parts.specs.Parameter.{parameters_in}
use Rattle.esis_pdu.specs.Addresses.{addresses_in}
use Rattle.capture_show.specs.declared.field.Field.{Field}
use Rattle.capture_show.specs.declared.pdu.Discard.{Discard}
use Rattle.capture_show.specs.declared.field.Field.TheVariants as fields
use Rattle.capture_show.specs.Texts.{address_text, addresses_text, listed_text, title_text, parameters_text}

abbrev pub field_text : Field → List ℕ
field_text (fields.Word text) = text.now
field_text (fields.Number number) = decimal number
field_text (fields.Octet octet) = encode_lower (octet ∷ [])
field_text (fields.Digits octets) = encode_lower octets.now
field_text (fields.Address address) = address_text address.now
field_text (fields.Title title) = title_text title.now
field_text (fields.Addresses count octets) = addresses_text (addresses_in count octets.now)
field_text (fields.Parameters octets) = parameters_text (parameters_in octets.now)

-- the fields behind the first, each behind a blank, and a line feed
abbrev pub tail : List (List ℕ) → List ℕ
tail [] = 10 ∷ []
tail (field ∷ fields) = 32 ∷ (field ++ tail fields)

-- the texts of a list behind those that are written, each behind a comma
abbrev pub commas : List (List ℕ) → List ℕ
commas texts = flat_map (λ text. 44 ∷ text) texts

-- the texts of a list where none is written yet, or behind others
abbrev pub going_on : Bool → List (List ℕ) → List ℕ
going_on false texts = listed_text texts
going_on true texts = commas texts

-- what an option tells of a discard
abbrev pub discard_view : Discard → ℕ × ℕ
discard_view discard = (discard.reason, discard.place)

-- texts with a blank behind each
abbrev pub before : List (List ℕ) → List ℕ
before [] = []
before (text ∷ texts) = text ++ 32 ∷ before texts
