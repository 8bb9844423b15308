-- What goes onward may be written: each option keeps its code and the form of its value, so the options stay allowed, and the header keeps its length.
use Rattle.std.proofs.Common.{◌≡◌, ◌⊎◌, ℕ, Bool, true, ◌+◌, ◌<◌, ◌≤◌, All, List, [], ◌∷◌, ◌++◌, length, slice_get, take, Option, Some, None, refl, sym, ◌∙◌, ap, subst, append_assoc, inl, inr, arith, length-append}
use Rattle.std.specs.List.{AllByRecursion}
use Rattle.std.proofs.lemmas.List.Elements.{All-append, All-cons, All-head, All-nil}
use Rattle.nsap.specs.declared.port.Port.{Port}
use Rattle.pdu_parts.specs.Field.{IsAddress}
use Rattle.pdu_parts.specs.Parameter.{Parameter}
use Rattle.clnp_options.specs.Options.{has, listed}
use Rattle.clnp_options.specs.Reasons.{code_of}
use Rattle.clnp_options.specs.Titles.{entries}
use Rattle.clnp_options.specs.Grammar.{AreAllowed, IsKnown, Discarded, Route, Record}
use Rattle.clnp_options.specs.Recording.{IsRecording, with_title}
use Rattle.clnp_options.specs.declared.reason.PduKind.{PduKind}
use Rattle.clnp_options.specs.declared.reason.PduKind.TheVariants.{Dt, Er}
use Rattle.clnp_options.proofs.Found.{allowed_changed}
use Rattle.clnp_options.proofs.Moves.{ends_valid}
use Rattle.clnp_options.proofs.Routes.{All-right}
use Rattle.clnp_header.specs.declared.pdu.OwnOpt.{OwnOpt}
use Rattle.clnp_header.specs.declared.pdu.Pdu.{Pdu}
use Rattle.clnp_header.specs.declared.pdu.PduRef.{PduRef}
use Rattle.clnp_header.specs.declared.pdu.SegmentPart.{SegmentPart}
use Rattle.clnp_header.specs.Flags.{AreFlags}
use Rattle.clnp_header.specs.Grammar.{IsPdu, MayBeSegment}
use Rattle.clnp_header.specs.Values.{parameter, parameters}
use Rattle.clnp_header.specs.Writing.{HasKind, header_length, pdu_length}
use Rattle.clnp_header.proofs.Parts.{length-header}
use Rattle.clnp_header.proofs.Found.{parameters_again}
use Rattle.clnp_segment.specs.Cutting.{Cuts, MayGo, piece_of}
use Rattle.clnp_segment.specs.Laws.{CutsWritable}
use Rattle.clnp_system.specs.Setting.{Setting}
use Rattle.clnp_system.specs.Node.{Frame}
use Rattle.clnp_system.specs.Written.{AreFrames, HasPdu, IsPduFrame, WasRead, MayBeWritten}
use Rattle.clnp_system.specs.Reporting as reporting
use Rattle.clnp_system.specs.Reporting.{report_pdu}
use Rattle.clnp_system.specs.Forwarding.{AreOptionsOnward, IsOnward, IsOptionOnward, Records, Routed, Recorded, Other, Written, Full, Ended, past_own}
use Rattle.clnp_system.proofs.Lengths.{onward_length, recorded_length}
use Rattle.clnp_system.proofs.Passing.{take_snoc}
use Rattle.clnp_system.proofs.Initial.{all_of}

-- one frame more
frames_snoc : (setting : Setting) (to : Port) (pdus : List Pdu) (frames : List Frame) (pdu : Pdu) (frame : Frame) → IsPduFrame setting to pdu frame
    → AreFrames setting to pdus frames → AreFrames setting to (pdus ++ pdu ∷ []) (frames ++ frame ∷ [])
frames_snoc setting to [] frames pdu frame is h = (frame, [], is, refl, ap (λ (fs : List Frame). fs ++ frame ∷ []) h)
frames_snoc setting to (p ∷ pdus) frames pdu frame is h =
    (h.0, h.1 ++ frame ∷ [], h.2, frames_snoc setting to pdus h.1 pdu frame is h.3, ap (λ (fs : List Frame). fs ++ frame ∷ []) h.4)

-- the frame of the next PDU
pub frames_more : (setting : Setting) (to : Port) (pdus : List Pdu) (i : ℕ) (pdu : Pdu) (frame : Frame) (frames new : List Frame) → slice_get pdus i ≡ Some pdu
    → IsPduFrame setting to pdu frame → AreFrames setting to (take i pdus) frames → new ≡ frames ++ frame ∷ [] → AreFrames setting to (take (i + 1) pdus) new
frames_more setting to pdus i pdu frame frames new at is h e =
    let parted : take (i + 1) pdus ≡ take i pdus ++ pdu ∷ [] = take_snoc pdus i pdu at in
    subst (AreFrames setting to (take (i + 1) pdus)) (sym e)
    (subst (λ (ps : List Pdu). AreFrames setting to ps (frames ++ frame ∷ [])) (sym parted) (frames_snoc setting to (take i pdus) frames pdu frame is h))

-- ---- options
at_most_or_above : (m n : ℕ) → (m < n) ⊎ (n ≤ m)
at_most_or_above m n = grind arith

records_valid : (title old new : List ℕ) → IsAddress title → Records title old new → IsRecording new
records_valid title old new titled (Written recording was room is) =
    let after = with_title recording title in
    let whole : length new ≡ 2 + (length (entries after.recorded) + length after.space) = ap length is ∙ omega (arith, length-append (entries after.recorded) after.space) in
    let short : length new < 255 = omega (arith, recorded_length title old new (Written recording was room is), was.short) in
    elim (at_most_or_above (3 + length (entries after.recorded)) 255) [
      | inl below ↦ inl (
        after,
        record {
          kind = was.kind;
          titles = All-append IsAddress recording.recorded (title ∷ []) was.titles (All-cons IsAddress title [] titled (All-nil IsAddress));
          parts = is;
          goes_on = below;
          short = short;
        },
      )
      | inr above ↦
          let full : 3 + length (entries after.recorded) ≡ 255 = omega (arith, above, short, whole) in
          inr (
            recording.kind,
            entries after.recorded ++ after.space,
            record {
              kind_is = was.kind;
              parts = is ∙ ap (λ (n : ℕ). recording.kind ∷ n ∷ (entries after.recorded ++ after.space)) full;
              short = short;
            },
          )
    ]
records_valid title old new titled (Full recording was room is) = subst IsRecording (sym is) (ends_valid old (inl (recording, was)))
records_valid title old new titled (Ended kind rest was is) = subst IsRecording (sym is) (inr (kind, rest, was))

module _ (setting : Setting) (titled : IsAddress setting.title) where
  known_onward : (kind : PduKind) (old new : OwnOpt) → IsOptionOnward setting old new → IsKnown kind (parameter old) → IsKnown kind (parameter new)
  known_onward kind old new (Routed was is passes) h = Route is (past_own setting passes.route passes.route.ahead, passes.passed)
  known_onward kind old new (Recorded was is records) h = Record is (records_valid setting.title old.value new.value titled records)
  known_onward kind old new (Other route recording is) h = subst (λ (o : OwnOpt). IsKnown kind (parameter o)) (sym is) h

  code_onward : (old new : OwnOpt) → IsOptionOnward setting old new → new.code ≡ old.code
  code_onward old new (Routed was is passes) = is ∙ sym was
  code_onward old new (Recorded was is records) = is ∙ sym was
  code_onward old new (Other route recording is) = ap (λ (o : OwnOpt). o.code) is

  -- one option after another is changed, and those before it are as they go onward
  options_allowed : (kind : PduKind) (front : List Parameter) (old new : List OwnOpt) → AreOptionsOnward setting old new → AreAllowed kind (front ++ parameters old)
      → AreAllowed kind (front ++ parameters new)
  options_allowed kind front [] new h allowed = subst (λ (os : List OwnOpt). AreAllowed kind (front ++ parameters os)) (sym h) allowed
  options_allowed kind front (option ∷ options) new h allowed =
      let known = All-head (IsKnown kind) (parameter option) (parameters options) (All-right (IsKnown kind) front (parameter option ∷ parameters options) allowed.known) in
      let changed : AreAllowed kind (front ++ parameter h.0 ∷ parameters options) =
      allowed_changed kind front (parameters options) (parameter option) (parameter h.0) allowed (code_onward option h.0 h.2) (known_onward kind option h.0 h.2 known) in
      let moved : AreAllowed kind ((front ++ parameter h.0 ∷ []) ++ parameters options) =
      subst (AreAllowed kind) (sym (append_assoc front (parameter h.0 ∷ []) (parameters options))) changed in
      let rest : AreAllowed kind ((front ++ parameter h.0 ∷ []) ++ parameters h.1) = options_allowed kind (front ++ parameter h.0 ∷ []) options h.1 h.3 moved in
      subst (λ (os : List OwnOpt). AreAllowed kind (front ++ parameters os)) (sym h.4) (subst (AreAllowed kind) (append_assoc front (parameter h.0 ∷ []) (parameters h.1)) rest)

  kind_of : (kind : PduKind) (flags : ℕ) (segment : Option SegmentPart) (report : Bool) → AreFlags kind flags segment report → HasKind kind segment report
  kind_of Dt flags segment report h = tt
  kind_of Er flags segment report h = (h.whole, h.unreported)

  -- the whole PDU that goes onward may be written
  pub onward_written : (bound : ℕ) (old new : Pdu) → (octets : List ℕ) × HasPdu octets old → IsOnward setting bound old new → MayBeWritten new
  onward_written bound old new read h =
      let octets = read.1.1.front in
      let is : IsPdu octets old = read.1.1.stands in
      let same = onward_length setting bound old new h in
      let header : length is.header ≡ header_length old = length-header octets old is in
      let body : length new.body ≡ length old.body = ap (λ (p : Pdu). length p.body) h.else_same in
      let whole : length octets ≡ pdu_length new = ap length is.whole ∙ length-append is.header old.body ∙ omega (arith, header, same, body) in
      record {
        writable = record {
          kind = subst (λ (p : Pdu). HasKind p.kind p.segment p.report) (sym h.else_same) (kind_of old.kind is.flags old.segment old.report is.flags_part);
          segment = subst (λ (p : Pdu). MayBeSegment p.segment (pdu_length new) (length p.body)) (sym h.else_same)
              (subst (λ (n : ℕ). MayBeSegment old.segment n (length old.body)) whole is.segment);
          options = subst (λ (p : Pdu). AreAllowed p.kind (parameters new.options)) (sym h.else_same) (options_allowed old.kind [] old.options new.options h.options is.options_part.allowed);
        };
        header = omega (arith, same, header, is.header_fits);
        whole = omega (arith, whole, is.pdu_fits);
      }

-- ---- a PDU that was read
pub read_known : (pdu : PduRef) → WasRead pdu → All (IsKnown pdu.kind) (listed pdu.options)
read_known pdu h = subst (λ (os : List Parameter). All (IsKnown pdu.kind) os) (parameters_again (listed pdu.options)) h.1.1.stands.options_part.allowed.known

may_go : (room : ℕ) (pdus : List Pdu) → room ≤ 1497 → AllByRecursion (MayGo room) pdus → AllByRecursion MayBeWritten pdus
may_go room [] most h = tt
may_go room (pdu ∷ pdus) most h =
    (record { writable = h.0.writable; header = h.0.short; whole = omega (arith, h.0.fits, most) }, may_go room pdus most h.1)

-- what is cut for a room may be written
pub cut_may_be_written : (room : ℕ) (pdu : Pdu) (pdus : List Pdu) → CutsWritable → 264 ≤ room → room ≤ 1497 → MayBeWritten pdu
    → Cuts pdu room pdu.segment (Some pdus) → All MayBeWritten pdus
cut_may_be_written room pdu pdus law least most w cuts = all_of MayBeWritten pdus (may_go room pdus most (law pdu room pdus least w.writable w.header cuts))

-- a PDU that fits is its one piece
pub fits_alone : (pdu : Pdu) (room : ℕ) (segment : Option SegmentPart) → pdu.segment ≡ segment → pdu_length pdu ≤ room → Cuts pdu room segment (Some (pdu ∷ []))
fits_alone pdu room None e fits = (fits, refl)
fits_alone pdu room (Some part) e fits =
    let same : record part { offset = part.offset + 0; more = part.more } ≡ part = ap (λ (n : ℕ). record part { offset = n }) (omega arith) in
    let whole : piece_of pdu part 0 true pdu.body ≡ pdu = ap (λ (s : Option SegmentPart). record pdu { segment = s }) (ap Some same ∙ sym e) in
    (pdu.body ∷ [], (fits, refl), ap (λ (p : Pdu). p ∷ []) (sym whole))

-- ---- a report

-- its one option is the reason
reason_only : (reason place : ℕ) → AreAllowed Er (record { code = 0xc1; value = reason ∷ place ∷ [] } ∷ [])
reason_only reason place = record {
  known = All-cons (IsKnown Er) (record { code = 0xc1; value = reason ∷ place ∷ [] }) [] (Discarded refl refl refl) (All-nil (IsKnown Er));
  once = once;
  reason = λ er. refl;
}
  where
    once : (before after : List Parameter) (option : Parameter) → record { code = 0xc1; value = reason ∷ place ∷ [] } ∷ [] ≡ before ++ option ∷ after
        → has option.code before ≡ true → option.code ≡ 0xcc
    once [] after option e there = absurd cc
    once (x ∷ []) after option e there = absurd cc
    once (x ∷ y ∷ before) after option e there = absurd cc

pub report_written : (setting : Setting) (pdu : Pdu) (discarded : reporting.Discarded) (room : ℕ) → pdu ≡ report_pdu setting discarded → header_length (report_pdu setting discarded) ≤ 55
    → pdu_length pdu ≤ room → room ≤ 1497 → MayBeWritten pdu
report_written setting pdu discarded room e short fits most =
    subst MayBeWritten (sym e) (record {
      writable = record { kind = (refl, refl); segment = tt; options = reason_only (code_of discarded.reason) discarded.place };
      header = omega arith;
      whole = omega (arith, ap pdu_length e);
    })
