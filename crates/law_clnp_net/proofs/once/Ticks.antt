-- A tick of a system has one outcome.
use Rattle.std.proofs.Common.{◌≡◌, ℕ, List, [], ◌∷◌, ◌++◌, map, Some, None, refl, sym, ◌∙◌, ap, subst}
use Rattle.clnp_segment.specs.Store.{Holding}
use Rattle.clnp_segment.specs.declared.store.Expired.{Expired}
use Rattle.clnp_system.specs.Hellos.{is_due}
use Rattle.clnp_system.specs.Node.{Frame, Node, Reaction}
use Rattle.clnp_system.specs.Tables.{Tables}
use Rattle.clnp_system.specs.Ticking.{ExpiresAll, NodeTicks, ReportsEach, discarded_unit, expiry_note}
use Rattle.law_clnp_net.proofs.once.Frames.{one_hellos_if}
use Rattle.clnp_segment.proofs.Lists.{same_some}
use Rattle.law_clnp_net.proofs.once.Reports.{one_reaction, one_report}
use Rattle.clnp_segment.proofs.Determined.{one_expiry}

one_expiring : (store : Holding) (now : ℕ) (list others : List Expired) (after more : Holding) → ExpiresAll store now list after → ExpiresAll store now others more
    → (list ≡ others) × (after ≡ more)
one_expiring store now [] [] after more a b = (refl, (one_expiry store now None None after more a b).1)
one_expiring store now [] (other ∷ others) after more a b =
    let e : None ≡ Some other = (one_expiry store now None (Some other) after b.0 a b.1).0 in
    absurd cc
one_expiring store now (expired ∷ list) [] after more a b =
    let e : Some expired ≡ None = (one_expiry store now (Some expired) None a.0 more a.1 b).0 in
    absurd cc
one_expiring store now (expired ∷ list) (other ∷ others) after more a b =
    let one = one_expiry store now (Some expired) (Some other) a.0 b.0 a.1 b.1 in
    let first : expired ≡ other = same_some expired other one.0 in
    let rest = one_expiring b.0 now list others after more (subst (λ (mid : Holding). ExpiresAll mid now list after) one.1 a.2) b.2 in
    (λ i. first i ∷ rest.0 i, rest.1)

one_reporting : {N : Type 0} (tables : Tables N) (node : Node N) (now : ℕ) (list : List Expired) (frames others : List Frame) → ReportsEach tables node now list frames
    → ReportsEach tables node now list others → frames ≡ others
one_reporting tables node now [] frames others a b = a ∙ sym b
one_reporting tables node now (expired ∷ list) frames others a b =
    let here : a.0 ≡ b.0 = one_report tables node now (discarded_unit expired) a.0 b.0 a.2 b.2 in
    let rest : a.1 ≡ b.1 = one_reporting tables node now list a.1 b.1 a.3 b.3 in
    let both : a.0 ++ a.1 ≡ b.0 ++ b.1 = λ i. here i ++ rest i in
    a.4 ∙ both ∙ sym b.4

pub one_node_tick : {N : Type 0} (tables : Tables N) (old : Node N) (now : ℕ) (reaction other : Reaction) (new more : Node N) → NodeTicks tables old now reaction new
    → NodeTicks tables old now other more → (reaction ≡ other) × (new ≡ more)
one_node_tick {N} tables old now reaction other new more a b =
    let one = one_expiring old.store now a.expired b.expired a.store b.store a.expires b.expires in
    let after : new ≡ more =
    a.after
    ∙ ap (λ (store : Holding). let node : Node N = record old { clock = now; store = store; neighbours = tables.sweep old.neighbours now; redirects = tables.sweep old.redirects now } in node) one.1
    ∙ sym b.after in
    let ups : reaction.ups ≡ other.ups = a.told ∙ ap (λ (list : List Expired). map (expiry_note old.setup.system) list) one.0 ∙ sym b.told in
    let told : ReportsEach tables more now b.expired a.reports =
    subst (λ (list : List Expired). ReportsEach tables more now list a.reports) one.0 (subst (λ (node : Node N). ReportsEach tables node now a.expired a.reports) after a.are_reports) in
    let reports : a.reports ≡ b.reports = one_reporting tables more now b.expired a.reports b.reports told b.are_reports in
    let hellos : a.hellos ≡ b.hellos = one_hellos_if (is_due old.setup now) old.setup a.hellos b.hellos a.are_hellos b.are_hellos in
    let both : a.reports ++ a.hellos ≡ b.reports ++ b.hellos = λ i. reports i ++ hellos i in
    (one_reaction reaction other ups (a.frames ∙ both ∙ sym b.frames), after)
