-- What is discarded can be reported.
use Rattle.std.proofs.Common.{◌≡◌, ℕ, ◌<◌, ◌≤◌, Bool, true, false, List, [], ◌∷◌, ◌++◌, Option, Some, None, refl, arith}
use Rattle.std.specs.Prelude.{IfSome, nat_lt}
use Rattle.std.specs.List.{AllByRecursion}
use Rattle.std.proofs.lemmas.Bool.{ltb-false}
use Rattle.nsap.specs.declared.port.Hop.{Hop}
use Rattle.osi_base.specs.declared.unit.Up.TheVariants.{Note as Noted}
use Rattle.osi_base.specs.declared.note.Note.TheVariants as notes
use Rattle.clnp_options.specs.Reasons.{code_of}
use Rattle.clnp_options.specs.declared.reason.Reason.{Reason}
use Rattle.clnp_options.specs.declared.reason.Reason.TheVariants as reasons
use Rattle.clnp_header.specs.Writing.{pdu_length}
use Rattle.clnp_header.specs.declared.pdu.Pdu.{Pdu}
use Rattle.clnp_segment.specs.declared.store.Expired.{Expired}
use Rattle.esis_tables.specs.Rows.{Rows}
use Rattle.clnp_system.specs.Hops.{hop_of}
use Rattle.clnp_system.specs.Node.{Node, Reaction}
use Rattle.clnp_system.specs.Reporting.{Discarded, Discards, FitsOne, GoesBy, Reports, ReportsIf, report_pdu}
use Rattle.clnp_system.specs.Setting.{Setting, room_of}
use Rattle.clnp_system.specs.Tables.{rows_tables}
use Rattle.clnp_system.specs.Ticking.{ReportsEach, discarded_unit}
use Rattle.clnp_system.proofs.Lans.{lan_of}
use Rattle.clnp_system.proofs.Writable.{report_written}
use Rattle.law_clnp_net.specs.Serving.{WaitsInOctets}
use Rattle.law_clnp_net.specs.Standing.{FitsNode, IsFrame, IsHop}
use Rattle.law_clnp_net.proofs.written.Fitting.{FitsDiscarded, FitsExpired, FitsOctets}
use Rattle.law_clnp_step.proofs.Lists.{all_both}
use Rattle.law_clnp_net.proofs.written.Pieces.{SentAll, sent_pdus}
use Rattle.law_clnp_net.proofs.written.Ways.{of_good}

pub code_fits : (reason : Reason) → code_of reason < 256
code_fits reasons.NotSpecified = omega arith
code_fits other = omega arith

module _ (node : Node Rows) (fits : FitsNode node) where
  abbrev Set : Setting
  Set = node.setup

  report_fits : (discarded : Discarded) → discarded.report ≡ true → FitsDiscarded discarded → FitsOctets (report_pdu Set discarded)
  report_fits discarded wanted h = record {
    destination = h.source wanted;
    source = fits.setup.title;
    lifetime = omega (arith, fits.setup.may.most_life);
    segment = tt;
    options = (record { code = omega arith; long = omega arith; value = (code_fits discarded.reason, (h.place wanted, tt)) }, tt);
    body = h.header;
  }

  fitting : (discarded : Discarded) (hop : Hop) (passes : Bool) → nat_lt (room_of Set hop.port.lan) (pdu_length (report_pdu Set discarded)) ≡ passes → discarded.report ≡ true
      → FitsDiscarded discarded → IsHop Set hop → SentAll Set fits.setup (FitsOne Set hop (report_pdu Set discarded) passes)
  fitting discarded hop true e wanted h good = record { frames = []; are = refl; fit = tt }
  fitting discarded hop false e wanted h good =
      let pdu : Pdu = report_pdu Set discarded in
      let within : pdu_length pdu ≤ room_of Set hop.port.lan = ltb-false (room_of Set hop.port.lan) (pdu_length pdu) e in
      let source = h.source wanted in
      let lan = lan_of Set hop.port.lan fits.setup.may good.near in
      let written = report_written Set pdu discarded (room_of Set hop.port.lan) refl (omega (arith, source.is.most, fits.setup.title.is.most)) within lan.most_room in
      let sent = sent_pdus Set fits.setup hop.port (pdu ∷ []) good.near good.snpa (written, tt) (report_fits discarded wanted h, tt) in
      record { frames = sent.frames; are = sent.are; fit = sent.fit }

  going : (discarded : Discarded) (hop : Option Hop) → discarded.report ≡ true → FitsDiscarded discarded → IfSome hop (IsHop Set) → SentAll Set fits.setup (GoesBy Set hop (report_pdu Set discarded))
  going discarded None wanted h good = record { frames = []; are = refl; fit = tt }
  going discarded (Some hop) wanted h good =
      let sent = fitting discarded hop (nat_lt (room_of Set hop.port.lan) (pdu_length (report_pdu Set discarded))) refl wanted h good in
      record { frames = sent.frames; are = sent.are; fit = sent.fit }

  reporting : (now : ℕ) (discarded : Discarded) (wanted : Bool) → discarded.report ≡ wanted → FitsDiscarded discarded → SentAll Set fits.setup (ReportsIf wanted rows_tables node now discarded)
  reporting now discarded false e h = record { frames = []; are = refl; fit = tt }
  reporting now discarded true e h =
      let sent = going discarded (hop_of rows_tables node now discarded.source) e h (of_good node fits now discarded.source) in
      record { frames = sent.frames; are = sent.are; fit = sent.fit }

  pub reported : (now : ℕ) (discarded : Discarded) → FitsDiscarded discarded → SentAll Set fits.setup (Reports rows_tables node now discarded)
  reported now discarded h =
      let sent = reporting now discarded discarded.report refl h in
      record { frames = sent.frames; are = sent.are; fit = sent.fit }

  pub record Lost (now : ℕ) (discarded : Discarded) : Type 0 where
    pub reaction : Reaction
    pub discards : Discards rows_tables node now discarded reaction
    pub fit : AllByRecursion IsFrame reaction.frames
    pub ups_fit : WaitsInOctets reaction.ups

  pub lost : (now : ℕ) (discarded : Discarded) → FitsDiscarded discarded → Lost now discarded
  lost now discarded h =
      let sent = reported now discarded h in
      record {
        reaction = record { ups = Noted (notes.Discard node.setup.system (code_of discarded.reason) discarded.place) ∷ []; frames = sent.frames };
        discards = record { told = refl; reports = sent.are };
        fit = sent.fit;
        ups_fit = (tt, tt);
      }

  pub reported_all : (now : ℕ) (list : List Expired) → AllByRecursion FitsExpired list → SentAll Set fits.setup (ReportsEach rows_tables node now list)
  reported_all now [] h = record { frames = []; are = refl; fit = tt }
  reported_all now (expired ∷ list) h =
      let first = reported now (discarded_unit expired) (record { source = λ wanted. h.0.source; place = λ wanted. omega arith; header = h.0.header }) in
      let rest = reported_all now list h.1 in
      record {
        frames = first.frames ++ rest.frames;
        are = (first.frames, rest.frames, first.are, rest.are, refl);
        fit = all_both IsFrame first.frames rest.frames first.fit rest.fit;
      }
