-- Two partner ends of a network that are both Opened, as a pair in which nothing waits (X.224, class 4 state tables; X.214, queue model).
use Rattle.std.specs.Prelude.{◌≡◌, ℕ, List}
use Rattle.osi_base.specs.Link.{Link}
use Rattle.tp4_conn.specs.End.{End}
use Rattle.tp4_conn.specs.declared.states.InOpened.{InOpened}
use Rattle.tp4_conn.specs.declared.states.StateData.TheVariants.{Opened}
use Rattle.tp4_conn.specs.declared.timers.Timers.{Timers}
use Rattle.tp4_entity.specs.Entity.{Entity}
use Rattle.script_journal.specs.Lawful.{shown, submitted}
use Rattle.script_journal.specs.Partner.{ArePartners}
use Rattle.script_journal.specs.declared.event.Event.{Event}
use Rattle.law_tp4_pair.specs.Pair.{Comes_back, Comes_forth, Happening, IsIdle, Pair}
use Rattle.law_recovery_steps.specs.Beginning.{AreAgreed}
use Rattle.law_recovery_steps.specs.Known.{AreKnown}
use Rattle.tp4_world.specs.World.{World}
use Rattle.law_tp4_lawful.specs.References.{IsEnd}

-- the end of the number x, which is Opened
pub record IsOpenedEnd {C : Type 0} (last : World C) (x : ℕ) (end : End) (o : InOpened) : Type 0 where
  pub system : ℕ
  pub reference : ℕ
  pub entity : Entity
  pub is_end : IsEnd last x system entity reference end
  pub stage : end.stage ≡ Opened o

-- the pair has these two partners, at the clock of the network, with the units that their users submitted and that they showed, by the journal; nothing waits
pub record IsPairOf {C : Type 0} (link : C → Link (List ℕ)) (journal : List Event) (last : World C) (x y : ℕ) (p : Pair) (o q : InOpened) : Type 0 where
  pub partners : ArePartners journal x y
  pub calling : IsOpenedEnd last x p.calling o
  pub called : IsOpenedEnd last y p.called q
  pub clock : p.clock ≡ (link last.carrier).clock
  pub idle : IsIdle p
  pub calling_gave : p.calling_gave ≡ submitted x journal
  pub called_gave : p.called_gave ≡ submitted y journal
  pub calling_showed : p.calling_showed ≡ shown x journal
  pub called_showed : p.called_showed ≡ shown y journal

-- both ends have these timers, and their halves the T1 and the N of them
pub record AreTimed (timers : Timers) (p : Pair) (o q : InOpened) : Type 0 where
  pub calling : p.calling.base.timers ≡ timers
  pub called : p.called.base.timers ≡ timers
  pub calling_t1 : o.halves.sending.rules.t1 ≡ timers.t1
  pub called_t1 : q.halves.sending.rules.t1 ≡ timers.t1
  pub calling_sendings : o.halves.sending.rules.sendings ≡ timers.sendings
  pub called_sendings : q.halves.sending.rules.sendings ≡ timers.sendings

-- a TPDU that waits comes
abbrev pub IsArrival : Happening → Type 0
IsArrival Comes_forth = Unit {0}
IsArrival Comes_back = Unit {0}
IsArrival other = ⊥

-- of each pair of partners all is known, they agreed, and both have the timers of the calling end
abbrev pub PairsAreKnown : {C : Type 0} → (C → Link (List ℕ)) → List Event → World C → Type 0
PairsAreKnown link journal last = (x y : ℕ) (p : Pair) (o q : InOpened) → IsPairOf link journal last x y p o q
    → AreKnown p.calling.base.timers.life p o q × AreAgreed p o q × AreTimed p.calling.base.timers p o q
