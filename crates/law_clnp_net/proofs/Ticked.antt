-- A tick of two end systems that hold nothing and know of nobody: only hellos go out, to all intermediate systems, of which there is none.
use Rattle.std.proofs.Common.{◌≡◌, ℕ, Bool, true, false, List, [], ◌∷◌, ◌++◌, map, refl, sym, ◌∙◌, ap, subst}
use Rattle.std.specs.List.{AllByRecursion, filter}
use Rattle.nsap.specs.declared.port.Port.{Port}
use Rattle.esis_tables.specs.Rows.{Rows, is_row_known}
use Rattle.esis_tables.specs.declared.holding_time.Row.{Row}
use Rattle.clnp_segment.specs.Store.{Holding}
use Rattle.clnp_segment.specs.declared.store.Expired.{Expired}
use Rattle.clnp_system.specs.Hellos.{AreHellos, HellosIf, hearers, is_due}
use Rattle.clnp_system.specs.Node.{Frame, Node, Reaction}
use Rattle.clnp_system.specs.Setting.{Setting, all_intermediates}
use Rattle.clnp_system.specs.Tables.{rows_tables}
use Rattle.clnp_system.specs.Ticking.{ExpiresAll, NodeTicks, ReportsEach, expiry_note}
use Rattle.law_clnp_net.proofs.Nodes.{IsCalmNode}

-- nothing is held, of at most 32 units and 262,144 octets
pub record IsEmptyStore (store : Holding) : Type 0 where
  pub held : store.held ≡ []
  pub units : store.units ≡ 32
  pub octets : store.octets ≡ 262144

-- the frame goes to all intermediate systems
abbrev pub IsToGroup : Frame → Type 0
IsToGroup frame = frame.to.snpa ≡ all_intermediates

pub hellos_go : (setting : Setting) (ports : List Port) (frames : List Frame) → setting.end ≡ true → AreHellos setting ports frames → AllByRecursion IsToGroup frames
hellos_go setting [] frames end none = subst (AllByRecursion IsToGroup) (sym none) tt
hellos_go setting (port ∷ ports) frames end hellos =
    let to : hellos.0.to.snpa ≡ all_intermediates = ap (λ (p : Port). p.snpa) hellos.2.goes.to_is ∙ ap hearers end in
    subst (AllByRecursion IsToGroup) (sym hellos.4) (to, hellos_go setting ports hellos.1 end hellos.3)

pub due_hellos_go : (due : Bool) (setting : Setting) (frames : List Frame) → setting.end ≡ true → HellosIf due setting frames → AllByRecursion IsToGroup frames
due_hellos_go false setting frames end none = subst (AllByRecursion IsToGroup) (sym none) tt
due_hellos_go true setting frames end hellos = hellos_go setting setting.ports frames end hellos

nothing_there : {A : Type 0} (before : List A) (one : A) (rest : List A) → [] ≡ before ++ one ∷ rest → ⊥
nothing_there [] one rest e = absurd cc
nothing_there (x ∷ before) one rest e = absurd cc

-- of what is not held nothing expires
pub none_expires : (old store : Holding) (now : ℕ) (expired : List Expired) → IsEmptyStore old → ExpiresAll old now expired store → (expired ≡ []) × IsEmptyStore store
none_expires old store now [] empty expires =
    (refl, subst IsEmptyStore (sym expires.1) (record { held = empty.held; units = empty.units; octets = empty.octets }))
none_expires old store now (one ∷ others) empty expires =
    let e : [] ≡ expires.1.before ++ expires.1.unit ∷ expires.1.rest = sym empty.held ∙ expires.1.stands in
    absurd (nothing_there expires.1.before expires.1.unit expires.1.rest e)

-- what a tick of such a system comes to
pub record TicksCalmly (setting : Setting) (reaction : Reaction) (new : Node Rows) : Type 0 where
  pub silent : reaction.ups ≡ []
  pub hellos : AllByRecursion IsToGroup reaction.frames
  pub calm : IsCalmNode setting new
  pub empty : IsEmptyStore new.store

pub ticks_calmly : (setting : Setting) (old : Node Rows) (now : ℕ) (reaction : Reaction) (new : Node Rows) → setting.end ≡ true → IsCalmNode setting old → IsEmptyStore old.store
    → NodeTicks rows_tables old now reaction new → TicksCalmly setting reaction new
ticks_calmly setting old now reaction new end calm empty t =
    let none = none_expires old.store t.store now t.expired empty t.expires in
    let reports : t.reports ≡ [] = subst (λ (expired : List Expired). ReportsEach rows_tables new now expired t.reports) none.0 t.are_reports in
    let is_end : old.setup.end ≡ true = ap (λ (s : Setting). s.end) calm.setup ∙ end in
    let knows_nobody : (rows : List Row) → rows ≡ [] → filter (is_row_known now) rows ≡ [] = λ rows e. ap (filter (is_row_known now)) e in
    record {
      silent = t.told ∙ ap (map (expiry_note old.setup.system)) none.0;
      hellos =
          subst (AllByRecursion IsToGroup) (sym (t.frames ∙ ap (λ (frames : List Frame). frames ++ t.hellos) reports))
          (due_hellos_go (is_due old.setup now) old.setup t.hellos is_end t.are_hellos);
      calm = record {
        setup = ap (λ (n : Node Rows). n.setup) t.after ∙ calm.setup;
        neighbours = ap (λ (n : Node Rows). n.neighbours.rows) t.after ∙ knows_nobody old.neighbours.rows calm.neighbours;
        redirects = ap (λ (n : Node Rows). n.redirects.rows) t.after ∙ knows_nobody old.redirects.rows calm.redirects;
      };
      empty = subst IsEmptyStore (sym (ap (λ (n : Node Rows). n.store) t.after)) none.1;
    }
