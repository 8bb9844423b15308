-- Options that were read go onward: the own title is passed or recorded in octets.
use Rattle.std.proofs.Common.{◌≡◌, ℕ, ◌+◌, ◌-◌, ◌<◌, Bool, true, false, All, List, [], ◌∷◌, ◌++◌, length, slice_set, refl, sym, ◌∙◌, ap, subst, arith, inl, inr, append_assoc, length-append}
use Rattle.std.specs.Prelude.{if◌then◌else◌, get_or, set}
use Rattle.std.specs.List.{AllByRecursion}
use Rattle.std.proofs.lemmas.Bool.{cases_lt}
use Rattle.std.proofs.lemmas.List.Elements.{All-head, All-tail}
use Rattle.pdu_parts.specs.Field.{field}
use Rattle.law_carrier_answers.specs.Answers.{AreOctets}
use Rattle.clnp_options.specs.declared.reason.PduKind.{PduKind}
use Rattle.clnp_options.specs.Grammar.{Discarded, IsKnown, Padding, Priority, Quality, Record, Route}
use Rattle.clnp_options.specs.Recording.{IsOpen, IsRecording, Recording, recording_octets, with_title}
use Rattle.clnp_options.specs.SourceRoute.{IsOnTheWay, IsSourceRoute, SourceRoute, moved}
use Rattle.clnp_options.specs.Titles.{entries}
use Rattle.clnp_options.proofs.Entries.{entries-append}
use Rattle.clnp_options.proofs.Moves.{moved_is}
use Rattle.clnp_header.specs.declared.pdu.OwnOpt.{OwnOpt}
use Rattle.clnp_header.specs.declared.pdu.Pdu.{Pdu}
use Rattle.clnp_header.specs.Values.{parameter, parameters}
use Rattle.clnp_system.specs.Forwarding.{AreOptionsOnward, IsOnward, IsOptionOnward, Passes, Records}
use Rattle.clnp_system.specs.Forwarding as onward
use Rattle.clnp_system.specs.Setting.{Setting, is_own_title}
use Rattle.clnp_system.specs.Written.{HasPdu, MayBeWritten}
use Rattle.clnp_system.proofs.Lengths.{recorded_length}
use Rattle.clnp_system.proofs.Writable.{onward_written}
use Rattle.law_clnp_net.specs.Standing.{IsNsap}
use Rattle.law_clnp_net.proofs.written.Fitting.{FitsOctets, FitsOption}
use Rattle.law_clnp_net.proofs.written.Octets.{octets_back, octets_both, octets_drop, octets_field, octets_front}

-- ---- a route

route_octets : (value : List ℕ) (route : SourceRoute) → IsSourceRoute value route → AreOctets (entries (route.passed ++ route.ahead)) → AreOctets value
route_octets value route is h =
    let all : List ℕ = entries (route.passed ++ route.ahead) in
    let size : length all ≡ length (entries route.passed) + length (entries route.ahead) =
    ap length (entries-append route.passed route.ahead) ∙ length-append (entries route.passed) (entries route.ahead) in
    let long : length value ≡ 2 + length all = ap length is.parts ∙ omega arith in
    subst AreOctets (sym is.parts) (omega (arith, is.kind), (omega (arith, size, long, is.short), h))

route_entries : (value : List ℕ) (route : SourceRoute) → IsSourceRoute value route → AreOctets value → AreOctets (entries (route.passed ++ route.ahead))
route_entries value route is h =
    let all : AreOctets (route.kind ∷ (3 + length (entries route.passed)) ∷ entries (route.passed ++ route.ahead)) = subst AreOctets is.parts h in
    all.1.1

-- the value as it goes onward
record Passed (setting : Setting) (old : List ℕ) : Type 0 where
  value : List ℕ
  passes : Passes setting old value
  long : length value < 256
  fits : AreOctets value

abbrev whole : ℕ → List (List ℕ) → List ℕ → List (List ℕ) → SourceRoute
whole kind passed entry ahead = record { kind = kind; passed = passed; ahead = entry ∷ ahead }

pass_at : (setting : Setting) (old : List ℕ) (kind : ℕ) (passed ahead : List (List ℕ)) → IsSourceRoute old (record { kind = kind; passed = passed; ahead = ahead }) → AreOctets old → length old < 256 → Passed setting old
pass_at setting old kind passed [] is h long =
    record { value = old; passes = record { route = record { kind = kind; passed = passed; ahead = [] }; is = is; passed = is }; long = long; fits = h }
pass_at setting old kind passed (entry ∷ ahead) is h long = by (is_own_title setting entry) refl
  where
    titles : (passed ++ entry ∷ []) ++ ahead ≡ passed ++ (entry ∷ ahead)
    titles = append_assoc passed (entry ∷ []) ahead

    by : (own : Bool) → is_own_title setting entry ≡ own → Passed setting old
    by false e = record {
      value = old;
      passes = record { route = (whole kind passed entry ahead); is = is; passed = subst (λ (b : Bool). IsSourceRoute old (if b then moved (whole kind passed entry ahead) else (whole kind passed entry ahead))) (sym e) is };
      long = long;
      fits = h;
    }
    by true e =
        let way : IsOnTheWay old = ((whole kind passed entry ahead), is, omega arith) in
        let value : List ℕ = set old 1 (get_or old 1 0 + (get_or old (get_or old 1 0 - 1) 0 + 1)) in
        let there : IsSourceRoute value (moved (whole kind passed entry ahead)) = moved_is old (whole kind passed entry ahead) way is in
        let same : AreOctets (entries ((passed ++ entry ∷ []) ++ ahead)) = subst (λ (ts : List (List ℕ)). AreOctets (entries ts)) (sym titles) (route_entries old (whole kind passed entry ahead) is h) in
        record {
          value = value;
          passes = record { route = (whole kind passed entry ahead); is = is; passed = subst (λ (b : Bool). IsSourceRoute value (if b then moved (whole kind passed entry ahead) else (whole kind passed entry ahead))) (sym e) there };
          long = omega (arith, there.short);
          fits = route_octets value (moved (whole kind passed entry ahead)) there same;
        }

pass : (setting : Setting) (old : List ℕ) (route : SourceRoute) → IsSourceRoute old route → AreOctets old → length old < 256 → Passed setting old
pass setting old route is h long = pass_at setting old route.kind route.passed route.ahead is h long

-- ---- a recording

record Recorded (title old : List ℕ) : Type 0 where
  value : List ℕ
  records : Records title old value
  fits : AreOctets value

open_at : (title old : List ℕ) (recording : Recording) → IsNsap title → IsOpen old recording → AreOctets old → Recorded title old
open_at title old recording titled is h = elim (cases_lt (length recording.space) (1 + length title)) [
  | inr room ↦
      let new : Recording = with_title recording title in
      let value : List ℕ = recording_octets new in
      let records : Records title old value = onward.Written recording is room refl in
      let parts : AreOctets (recording.kind ∷ (3 + length (entries recording.recorded)) ∷ (entries recording.recorded ++ recording.space)) = subst AreOctets is.parts h in
      let titles = octets_both (entries recording.recorded) (field title) (octets_front (entries recording.recorded) recording.space parts.1.1) (octets_field title (omega (arith, titled.is.most)) titled.octets) in
      let joined : entries (recording.recorded ++ title ∷ []) ≡ entries recording.recorded ++ (field title ++ []) = entries-append recording.recorded (title ∷ []) in
      let entries_fit : AreOctets (entries (recording.recorded ++ title ∷ [])) =
      subst AreOctets (sym joined)
      (octets_both (entries recording.recorded) (field title ++ []) (octets_front (entries recording.recorded) recording.space parts.1.1)
      (octets_both (field title) [] (octets_field title (omega (arith, titled.is.most)) titled.octets) tt)) in
      let space = octets_drop (1 + length title) recording.space (octets_back (entries recording.recorded) recording.space parts.1.1) in
      let size : length value ≡ 2 + (length (entries new.recorded) + length new.space) = omega (arith, length-append (entries new.recorded) new.space) in
      let same : length value ≡ length old = recorded_length title old value records in
      record {
        value = value;
        records = records;
        fits = (omega (arith, is.kind), (omega (arith, size, same, is.short), octets_both (entries new.recorded) new.space entries_fit space));
      }
  | inl full ↦
      let parts : AreOctets (recording.kind ∷ (3 + length (entries recording.recorded)) ∷ (entries recording.recorded ++ recording.space)) = subst AreOctets is.parts h in
      let ended : slice_set old 1 255 ≡ recording.kind ∷ 255 ∷ (entries recording.recorded ++ recording.space) = ap (λ (xs : List ℕ). slice_set xs 1 255) is.parts in
      record { value = slice_set old 1 255; records = onward.Full recording is full refl; fits = subst AreOctets (sym ended) (omega (arith, is.kind), (omega arith, parts.1.1)) }
]

record_at : (title old : List ℕ) → IsNsap title → IsRecording old → AreOctets old → Recorded title old
record_at title old titled (inl h) fits = open_at title old h.0 titled h.1 fits
record_at title old titled (inr h) fits = record { value = old; records = onward.Ended h.0 h.1 h.2 refl; fits = fits }

-- ---- options

record Moved (setting : Setting) (old : OwnOpt) : Type 0 where
  new : OwnOpt
  is : IsOptionOnward setting old new
  fits : FitsOption new

other : (setting : Setting) (old : OwnOpt) (code : ℕ) → old.code ≡ code → (code ≡ 0xc8 → ⊥) → (code ≡ 0xcb → ⊥) → FitsOption old → Moved setting old
other setting old code e route recording fits =
    record { new = old; is = onward.Other (λ h. route (sym e ∙ h)) (λ h. recording (sym e ∙ h)) refl; fits = fits }

move : (setting : Setting) (kind : PduKind) (old : OwnOpt) → IsNsap setting.title → IsKnown kind (parameter old) → FitsOption old → Moved setting old
move setting kind old titled (Padding code) fits = other setting old 0xcc code (λ h. omega (arith, h)) (λ h. omega (arith, h)) fits
move setting kind old titled (Route code route) fits =
    let p = pass setting old.value route.0 route.1 fits.value fits.long in
    record { new = record { code = 0xc8; value = p.value }; is = onward.Routed code refl p.passes; fits = record { code = omega arith; long = p.long; value = p.fits } }
move setting kind old titled (Record code recording) fits =
    let r = record_at setting.title old.value titled recording fits.value in
    record {
      new = record { code = 0xcb; value = r.value };
      is = onward.Recorded code refl r.records;
      fits = record { code = omega arith; long = omega (arith, fits.long, recorded_length setting.title old.value r.value r.records); value = r.fits };
    }
move setting kind old titled (Quality code some) fits = other setting old 0xc3 code (λ h. omega (arith, h)) (λ h. omega (arith, h)) fits
move setting kind old titled (Priority code one) fits = other setting old 0xcd code (λ h. omega (arith, h)) (λ h. omega (arith, h)) fits
move setting kind old titled (Discarded code er two) fits = other setting old 0xc1 code (λ h. omega (arith, h)) (λ h. omega (arith, h)) fits

record MovedAll (setting : Setting) (old : List OwnOpt) : Type 0 where
  new : List OwnOpt
  are : AreOptionsOnward setting old new
  fit : AllByRecursion FitsOption new

move_all : (setting : Setting) (kind : PduKind) (old : List OwnOpt) → IsNsap setting.title → All (IsKnown kind) (parameters old) → AllByRecursion FitsOption old → MovedAll setting old
move_all setting kind [] titled known fits = record { new = []; are = refl; fit = tt }
move_all setting kind (option ∷ options) titled known fits =
    let first = move setting kind option titled (All-head (IsKnown kind) (parameter option) (parameters options) known) fits.0 in
    let rest = move_all setting kind options titled (All-tail (IsKnown kind) (parameter option) (parameters options) known) fits.1 in
    record { new = first.new ∷ rest.new; are = (first.new, rest.new, first.is, rest.are, refl); fit = (first.fits, rest.fit) }

-- ---- the PDU

pub record GoesOn (setting : Setting) (bound : ℕ) (pdu : Pdu) : Type 0 where
  pub new : Pdu
  pub is : IsOnward setting bound pdu new
  pub may : MayBeWritten new
  pub fits : FitsOctets new

pub goes_on : (setting : Setting) (bound : ℕ) (octets : List ℕ) (pdu : Pdu) → IsNsap setting.title → HasPdu octets pdu → FitsOctets pdu → GoesOn setting bound pdu
goes_on setting bound octets pdu titled has fits =
    let options = move_all setting pdu.kind pdu.options titled has.1.stands.options_part.allowed.known fits.options in
    let new : Pdu = record pdu { lifetime = pdu.lifetime - bound; options = options.new } in
    let is : IsOnward setting bound pdu new = record { options = options.are; else_same = refl } in
    record {
      new = new;
      is = is;
      may = onward_written setting titled.is bound pdu new (octets, has) is;
      fits = record {
        destination = fits.destination;
        source = fits.source;
        lifetime = omega (arith, fits.lifetime);
        segment = fits.segment;
        options = options.fit;
        body = fits.body;
      };
    }
