-- A tick of a system (X.233, reassembly lifetime; ISO 9542, configuration timer and holding timer).
use Rattle.std.specs.Prelude.{◌≡◌, ℕ, List, [], ◌∷◌, ◌++◌, map, None, Some}
use Rattle.osi_base.specs.declared.unit.Up.{Up}
use Rattle.osi_base.specs.declared.unit.Up.TheVariants.{Note as Noted}
use Rattle.osi_base.specs.declared.note.Note.TheVariants as notes
use Rattle.clnp_options.specs.Reasons.{code_of}
use Rattle.clnp_options.specs.declared.reason.Reason.TheVariants.{LifetimeExpiredInReassembly}
use Rattle.clnp_segment.specs.Store.{Expires, Holding}
use Rattle.clnp_segment.specs.declared.store.Expired.{Expired}
use Rattle.clnp_system.specs.Tables.{Tables}
use Rattle.clnp_system.specs.Node.{Node, Frame, Reaction}
use Rattle.clnp_system.specs.Reporting.{Discarded, Reports}
use Rattle.clnp_system.specs.Hellos.{HellosIf, is_due}

-- all that expires, one after another
abbrev pub ExpiresAll : Holding → ℕ → List Expired → Holding → Type 0
ExpiresAll store now [] after = Expires store now None after
ExpiresAll store now (expired ∷ rest) after = (mid : Holding) × Expires store now (Some expired) mid × ExpiresAll mid now rest after

-- a unit whose lifetime ended before all its segments came: the segment that came first counts
abbrev pub discarded_unit : Expired → Discarded
discarded_unit expired =
    record { report = expired.reportable; source = expired.source; header = expired.header; reason = LifetimeExpiredInReassembly; place = 0 }

abbrev pub expiry_note : ℕ → Expired → Up (List ℕ)
expiry_note system expired = Noted (notes.Discard system (code_of LifetimeExpiredInReassembly) 0)

-- the report of each, in order
abbrev pub ReportsEach : {N : Type 0} → Tables N → Node N → ℕ → List Expired → List Frame → Type 0
ReportsEach tables node now [] frames = frames ≡ []
ReportsEach tables node now (expired ∷ others) frames =
    (here rest : List Frame) × Reports tables node now (discarded_unit expired) here × ReportsEach tables node now others rest × (frames ≡ here ++ rest)

-- what is known of others is swept, what expired is given up, and hellos go out where they are due: the notes, then the reports, then the hellos
pub record NodeTicks {N : Type 0} (tables : Tables N) (old : Node N) (now : ℕ) (reaction : Reaction) (new : Node N) : Type 0 where
  pub expired : List Expired
  pub store : Holding
  pub expires : ExpiresAll old.store now expired store
  pub after : new ≡ record old { clock = now; store = store; neighbours = tables.sweep old.neighbours now; redirects = tables.sweep old.redirects now }
  pub told : reaction.ups ≡ map (expiry_note old.setup.system) expired
  pub reports : List Frame
  pub hellos : List Frame
  pub are_reports : ReportsEach tables new now expired reports
  pub are_hellos : HellosIf (is_due old.setup now) old.setup hellos
  pub frames : reaction.frames ≡ reports ++ hellos
