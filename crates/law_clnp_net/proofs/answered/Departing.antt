-- A system answers each unit that is sent.
use Rattle.std.proofs.Common.{◌≡◌, ℕ, zero, suc, ◌+◌, ◌-◌, ◌*◌, ◌<◌, ◌≤◌, Bool, true, false, List, [], ◌∷◌, length, replicate, slice_get, Option, Some, None, Result, Ok, Err, refl, subst, arith, inl, inr, length-append}
use Rattle.std.specs.Prelude.{◌==◌, ◌&&◌, not, nat_lt, IfSome, if◌then◌else◌}
use Rattle.std.specs.List.{AllByRecursion}
use Rattle.std.proofs.lemmas.Bool.{ltb-false}
use Rattle.std.proofs.lemmas.Grind.{common_steps}
use Rattle.nsap.specs.declared.port.Hop.{Hop}
use Rattle.osi_base.specs.declared.unit.DropCause.{DropCause}
use Rattle.osi_base.specs.declared.unit.DropCause.TheVariants as causes
use Rattle.osi_base.specs.declared.unit.Unit.{Unit as CarriedUnit}
use Rattle.osi_base.specs.declared.unit.Wish.{Wish}
use Rattle.pdu_parts.specs.Field.{IsAddress, field}
use Rattle.law_carrier_answers.specs.Answers.{AreOctets}
use Rattle.clnp_options.specs.Titles.{entries}
use Rattle.clnp_header.specs.declared.pdu.Pdu.{Pdu}
use Rattle.clnp_header.specs.Writing.{pdu_length}
use Rattle.clnp_segment.specs.Cutting.{Cuts}
use Rattle.esis_tables.specs.Rows.{Rows}
use Rattle.clnp_system.specs.declared.setup.Path.{Path}
use Rattle.clnp_system.specs.Identifiers.{is_spent}
use Rattle.clnp_system.specs.Node.{Frame, Node, at_tick}
use Rattle.clnp_system.specs.Sending.{IsDropped, IsSent, Sends, by_hop, first_hop, first_length, first_pdu, first_segment, hop_by, numbered_if, recording_options, route_options, sending, way}
use Rattle.clnp_system.specs.Setting.{IsAddressed, Setting, is_own_system, path_of, room_of}
use Rattle.clnp_system.specs.Tables.{rows_tables}
use Rattle.clnp_system.proofs.Initial.{IsGood, first_length_is, first_written, path_good}
use Rattle.law_clnp_net.specs.Standing.{FitsNode, IsFrame, IsHop, IsNsap}
use Rattle.law_clnp_net.proofs.written.Fitting.{FitsOctets, FitsOption, FitsPart}
use Rattle.law_clnp_step.proofs.Lists.{all_both}
use Rattle.law_clnp_net.proofs.written.Octets.{octets_both, octets_field}
use Rattle.law_clnp_net.proofs.written.Pieces.{sent_cut}
use Rattle.law_clnp_net.proofs.written.Ways.{of_good, to_good}

-- a unit that may be sent
pub record IsUnit (unit : CarriedUnit (List ℕ)) : Type 0 where
  pub from : IsNsap unit.from
  pub to : IsNsap unit.to
  pub octets : AreOctets unit.octets

-- ---- the options of the initial PDU

all_at : {A : Type 0} (P : A → Type 0) (xs : List A) (i : ℕ) → AllByRecursion P xs → IfSome (slice_get xs i) P
all_at P [] i h = tt
all_at P (x ∷ xs) zero h = h.0
all_at P (x ∷ xs) (suc i) h = all_at P xs i h.1

if_some : {A : Type 0} (P : A → Type 0) (test : Bool) (one other : Option A) → IfSome one P → IfSome other P → IfSome (if test then one else other) P
if_some P true one other h k = h
if_some P false one other h k = k

some_weaker : {A : Type 0} (P Q : A → Type 0) (found : Option A) → ((x : A) → P x → Q x) → IfSome found P → IfSome found Q
some_weaker P Q None f h = tt
some_weaker P Q (Some x) f h = f x h

abbrev Titled : Path → Type 0
Titled path = AllByRecursion IsNsap path.titles

path_titled : (setting : Setting) (number : ℕ) → AllByRecursion Titled setting.paths → IfSome (path_of setting number) Titled
path_titled setting number h = if_some Titled (number == 0) None (slice_get setting.paths (number - 1)) tt (all_at Titled setting.paths (number - 1) h)

titles_addressed : (titles : List (List ℕ)) → AllByRecursion IsNsap titles → AllByRecursion IsAddress titles
titles_addressed [] h = tt
titles_addressed (title ∷ titles) h = (h.0.is, titles_addressed titles h.1)

titles_octets : (titles : List (List ℕ)) → AllByRecursion IsNsap titles → AreOctets (entries titles)
titles_octets [] h = tt
titles_octets (title ∷ titles) h = octets_both (field title) (entries titles) (octets_field title (omega (arith, h.0.is.most)) h.0.octets) (titles_octets titles h.1)

titles_length : (titles : List (List ℕ)) → AllByRecursion IsNsap titles → length (entries titles) ≤ 21 * length titles
titles_length [] h = omega arith
titles_length (title ∷ titles) h = omega (arith, h.0.is.most, titles_length titles h.1, length-append (field title) (entries titles))

complete_fits : (complete : Bool) → (if complete then 1 else 0) < 256
complete_fits true = omega arith
complete_fits false = omega arith

route_fits : (path : Option Path) → IfSome path Titled → IfSome path IsGood → AllByRecursion FitsOption (route_options path)
route_fits None h good = tt
route_fits (Some path) h good =
    (record { code = omega arith; long = omega (arith, titles_length path.titles h, good.is_path.1); value = (complete_fits path.complete, (omega arith, titles_octets path.titles h)) }, tt)

zeros_fit : (n : ℕ) → AreOctets (replicate n 0)
zeros_fit zero = tt
zeros_fit (suc n) = (omega arith, zeros_fit n)

recording_fits : (trace : Bool) → AllByRecursion FitsOption (recording_options trace)
recording_fits false = tt
recording_fits true = (record { code = omega arith; long = omega arith; value = (omega arith, (omega arith, zeros_fit 61)) }, tt)

segment_fits : (cut : Bool) (id total : ℕ) → id < 65536 → total < 65536 → IfSome (first_segment cut id total) FitsPart
segment_fits false id total h k = tt
segment_fits true id total h k = record { id = h; offset = omega arith; total = k }

-- ---- the way

by_false : {A : Type 0} (test : Bool) (cause : DropCause) (other : Result A DropCause) (x : A) → ◌≡◌ {A = Result A DropCause} (if test then Err cause else other) (Ok x) → (test ≡ false) × (other ≡ Ok x)
by_false true cause other x e = absurd cc
by_false false cause other x e = (refl, e)

same_ok : (one other : Hop) → ◌≡◌ {A = Result Hop DropCause} (Ok one) (Ok other) → one ≡ other
same_ok one other e = cc e

-- what holds of a hop to which a unit is sent
record IsWay (node : Node Rows) (unit : CarriedUnit (List ℕ)) (wish : Wish) (hop : Hop) : Type 0 where
  good : IsHop node.setup hop
  fits : wish.cut ≡ false → first_length node.setup unit wish ≤ room_of node.setup hop.port.lan

cut_false : (cut long : Bool) → (not cut && long) ≡ false → cut ≡ false → long ≡ false
cut_false true long e h = absurd cc
cut_false false long e h = e

module _ (node : Node Rows) (fits : FitsNode node) where
  by_good : (now : ℕ) (unit : CarriedUnit (List ℕ)) (wish : Wish) (found : Option Hop) (hop : Hop) → IfSome found (IsHop node.setup) → by_hop node now unit wish found ≡ Ok hop → IsWay node unit wish hop
  by_good now unit wish None hop good e = absurd cc
  by_good now unit wish (Some first) hop good e =
      let long : Bool = nat_lt (room_of node.setup first.port.lan) (first_length node.setup unit wish) in
      let outer = by_false (not wish.cut && long) causes.TooLong (if wish.cut && is_spent node now then Err causes.IdsSpent else Ok first) hop e in
      let inner = by_false (wish.cut && is_spent node now) causes.IdsSpent (Ok first) hop outer.1 in
      let same : first ≡ hop = same_ok first hop inner.1 in
      let first_way : IsWay node unit wish first = record {
        good = good;
        fits = λ h. ltb-false (room_of node.setup first.port.lan) (first_length node.setup unit wish) (cut_false wish.cut long outer.0 h);
      } in
      subst (IsWay node unit wish) same first_way

  first_good : (now : ℕ) (titles : List (List ℕ)) → IfSome (first_hop rows_tables node now titles) (IsHop node.setup)
  first_good now [] = tt
  first_good now (title ∷ titles) = to_good node fits now title

  path_way : (now : ℕ) (address : List ℕ) (path : Option Path) → IfSome (hop_by rows_tables node now address path) (IsHop node.setup)
  path_way now address None = of_good node fits now address
  path_way now address (Some path) = first_good now path.titles

  way_good : (now : ℕ) (address : List ℕ) (path : ℕ) → IfSome (way rows_tables node now address path) (IsHop node.setup)
  way_good now address path =
      if_some (IsHop node.setup) (is_own_system node.setup address) None (hop_by rows_tables node now address (path_of node.setup path)) tt (path_way now address (path_of node.setup path))

  -- ---- what is sent

  abbrev pub AllFit : Result (List Frame) DropCause → Type 0
  AllFit (Ok frames) = AllByRecursion IsFrame frames
  AllFit (Err cause) = Prim.Unit {0}

  pub record Departed (now : ℕ) (unit : CarriedUnit (List ℕ)) (wish : Wish) : Type 0 where
    pub sent : Result (List Frame) DropCause
    pub new : Node Rows
    pub sends : Sends rows_tables node now unit wish sent new
    pub stands : FitsNode new
    pub fit : AllFit sent

  at_tick_fits : (now : ℕ) → FitsNode (at_tick now node)
  at_tick_fits now = record { setup = fits.setup; next_id = fits.next_id; held = fits.held; neighbours = fits.neighbours; redirects = fits.redirects }

  next_fits : (id : ℕ) → id < 65536 → (if id == 65535 then 0 else id + 1) < 65536
  next_fits id h = grind (arith, common_steps, h)

  numbered_fits : (cut : Bool) (now : ℕ) → FitsNode (numbered_if cut (at_tick now node) now)
  numbered_fits false now = at_tick_fits now
  numbered_fits true now =
      record { setup = fits.setup; next_id = next_fits node.next_id fits.next_id; held = fits.held; neighbours = fits.neighbours; redirects = fits.redirects }

  no_cut : (cut : Bool) (pdu : Pdu) (room id total : ℕ) → (cut ≡ false → pdu_length pdu ≤ room) → Cuts pdu room (first_segment cut id total) None → ⊥
  no_cut false pdu room id total h none = omega (arith, h refl, none)
  no_cut true pdu room id total h none = none

  sent_by : (now : ℕ) (unit : CarriedUnit (List ℕ)) (wish : Wish) (hop : Hop) → IsUnit unit → length unit.octets ≤ 16384 → IsWay node unit wish hop → sending rows_tables node now unit wish ≡ Ok hop
      → Departed now unit wish
  sent_by now unit wish hop is few w e =
      let setting : Setting = node.setup in
      let pdu : Pdu = first_pdu setting unit wish node.next_id in
      let titled = path_titled setting wish.path fits.setup.paths in
      let addressed : IfSome (path_of setting wish.path) IsAddressed = some_weaker Titled IsAddressed (path_of setting wish.path) (λ path h. titles_addressed path.titles h) titled in
      let good = path_good setting wish.path fits.setup.may addressed in
      let written = first_written setting unit wish node.next_id good is.from.is is.to.is few in
      let total : ℕ = first_length setting unit wish in
      let size : pdu_length pdu ≡ total = first_length_is setting unit wish node.next_id total in
      let whole : total < 65536 = omega (arith, size, written.whole) in
      let in_octets : FitsOctets pdu = record {
        destination = is.to;
        source = is.from;
        lifetime = omega (arith, fits.setup.may.most_life);
        segment = segment_fits wish.cut node.next_id total fits.next_id whole;
        options = all_both FitsOption (route_options (path_of setting wish.path)) (recording_options wish.trace) (route_fits (path_of setting wish.path) titled good) (recording_fits wish.trace);
        body = is.octets;
      } in
      elim (sent_cut setting fits.setup hop.port pdu w.good.near w.good.snpa written in_octets) [
        | inl sent ↦ record {
          sent = Ok sent.frames;
          new = numbered_if wish.cut (at_tick now node) now;
          sends = IsSent hop sent.frames e sent.are refl refl;
          stands = numbered_fits wish.cut now;
          fit = sent.fit;
        }
        | inr none ↦ absurd (no_cut wish.cut pdu (room_of setting hop.port.lan) node.next_id total (λ h. omega (arith, w.fits h, size)) none)
      ]

  pub departed : (now : ℕ) (unit : CarriedUnit (List ℕ)) (wish : Wish) → IsUnit unit → Departed now unit wish
  departed now unit wish is = by (sending rows_tables node now unit wish) refl
    where
      by : (answer : Result Hop DropCause) → sending rows_tables node now unit wish ≡ answer → Departed now unit wish
      by (Err cause) e = record { sent = Err cause; new = at_tick now node; sends = IsDropped cause e refl refl; stands = at_tick_fits now; fit = tt }
      by (Ok hop) e =
          let found : Option Hop = way rows_tables node now unit.to wish.path in
          let short = by_false (nat_lt 16384 (length unit.octets)) causes.TooLong (by_hop node now unit wish found) hop e in
          sent_by now unit wish hop is (ltb-false 16384 (length unit.octets) short.0) (by_good now unit wish found hop (way_good now unit.to wish.path) short.1) e
