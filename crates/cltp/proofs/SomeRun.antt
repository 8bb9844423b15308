-- A call that a network of users may be asked has its events: a UD can be written and is offered, what waits can be taken up, each unit among it
-- gives its event, and fresh pairs are delivered until none is left or the count is full.
use Rattle.std.proofs.Common.{◌≡◌, ℕ, zero, suc, ◌+◌, ◌*◌, ◌-◌, ◌%◌, ◌<◌, Bool, true, false, nat_lt, List, [], ◌∷◌, ◌++◌, length, sum, reverse, Option, Some, None, refl, ◌∙◌, subst, inl, inr, arith}
use Rattle.std.specs.Prelude.{not, IsTrue}
use Rattle.std.proofs.lemmas.Bool.{cases_eq}
use Rattle.osi_base.specs.Fletcher.{place_sum}
use Rattle.osi_base.proofs.FletcherPair.{seals_pair}
use Rattle.osi_base.specs.declared.unit.Picked.{Picked}
use Rattle.osi_base.specs.declared.unit.Picked.TheVariants.{Taken as WasPicked}
use Rattle.osi_base.specs.declared.unit.Unit.{Unit as CarriedUnit}
use Rattle.osi_base.specs.declared.unit.Up.{Up}
use Rattle.osi_base.specs.declared.unit.Up.TheVariants.{Unit as Came, Note as Noted}
use Rattle.osi_base.specs.Link.{Link, IsLeastFresh}
use Rattle.osi_base.specs.Calls.{Call, Offer, Choose, Keeps, Tick}
use Rattle.script_journal.specs.declared.cause.Refused.TheVariants.{TooLong}
use Rattle.script_journal.specs.declared.cause.Settled.{Settled}
use Rattle.script_journal.specs.declared.cause.Settled.TheVariants as settled
use Rattle.law_carrier_answers.specs.Answers.{AreOctets, CanBeAsked, Choosing, MayBeOffered, Offering, Ticking, asked_of}
use Rattle.law_carrier_answers.proofs.Answered.{answered_by}
use Rattle.law_carrier_answers.proofs.Gatherings.{some_gathering}
use Rattle.net_world.specs.Told.{told, picked_event}
use Rattle.script_journal.specs.declared.event.Event.{Event}
use Rattle.script_journal.specs.declared.event.Event.TheVariants as events
use Rattle.cltp.specs.declared.sending.Request.{Request}
use Rattle.cltp.specs.declared.sending.ClAnswer.{ClAnswer}
use Rattle.cltp.specs.declared.sending.ClAnswer.TheVariants as replies
use Rattle.cltp.specs.declared.system.ClSystem.{ClSystem}
use Rattle.cltp.specs.Hearing.{HearsAll}
use Rattle.cltp.specs.Run.{Arrives, ClCall, Sending, Delivering, Ticking as TicksOnce, Settling, Delivers, NoneLeft, OneMore, SendsIf, Settles, TooMany}
use Rattle.cltp.specs.Sending.{answer_of, send_event, ud_for, ud_wish}
use Rattle.cltp.specs.Systems.{World}
use Rattle.cltp.specs.Total.{CanRun, CanSend, HasRun, HasStart, Serves, ServesOn}
use Rattle.cltp.specs.Laws.{SomeRun, SomeStart}
use Rattle.cltp.specs.Ud.{Ud, IsSelector}
use Rattle.cltp.specs.Writing.{IsWritten}
use Rattle.cltp.proofs.Hearings.{one_hearing}
use Rattle.cltp.proofs.Written.{before_sum, whole_at}
use Rattle.cltp.proofs.Arrivals.{takes_first}

-- ---- a UD can be written

-- an octet from 1 to 255 that is the same modulo 255
record IsUsed (value octet : ℕ) : Type 0 where
  used : (0 < octet) × (octet < 256)
  same : octet % 255 ≡ value % 255

used_octet : (value : ℕ) → (octet : ℕ) × IsUsed value octet
used_octet value = elim (cases_eq (value % 255) 0) [
  | inl none ↦ (255, record { used = (omega arith, omega arith); same = omega (arith, none) })
  | inr some ↦ (value % 255, record { used = (omega (arith, some), omega arith); same = omega arith })
]

octets_both : (xs ys : List ℕ) → AreOctets xs → AreOctets ys → AreOctets (xs ++ ys)
octets_both [] ys h k = k
octets_both (x ∷ xs) ys h k = (h.0, octets_both xs ys h.1 k)

record Writing (ud : Ud) : Type 0 where
  octets : List ℕ
  written : IsWritten ud octets
  are : AreOctets octets

some_writing : (ud : Ud) → IsSelector ud.from → IsSelector ud.to → AreOctets ud.from → AreOctets ud.to → AreOctets ud.octets → Writing ud
some_writing ud from to from_octets to_octets octets =
    let n = 9 + length ud.from + length ud.to in
    let front = before_sum n ud.from ud.to in
    let f = sum (front ++ 0 ∷ 0 ∷ ud.octets) % 255 in
    let g = place_sum 1 (reverse (front ++ 0 ∷ 0 ∷ ud.octets)) % 255 in
    let b = length ud.octets + 1 in
    let x = used_octet (b * f + (255 - g)) in
    let y = used_octet ((b + 1) * (255 - f) + g) in
    let sealed = seals_pair front ud.octets f g b x.0 y.0 refl refl refl x.1.same y.1.same in
    let low : AreOctets (ud.to ++ 0xC3 ∷ 2 ∷ []) = octets_both ud.to (0xC3 ∷ 2 ∷ []) to_octets (omega arith, (omega arith, tt)) in
    let middle : AreOctets (ud.from ++ 0xC2 ∷ length ud.to ∷ (ud.to ++ 0xC3 ∷ 2 ∷ [])) =
    octets_both ud.from (0xC2 ∷ length ud.to ∷ (ud.to ++ 0xC3 ∷ 2 ∷ [])) from_octets (omega arith, (omega (arith, to.most), low)) in
    let header : AreOctets front = (omega (arith, from.most, to.most), (omega arith, (omega arith, (omega (arith, from.most), middle)))) in
    record {
      octets = front ++ x.0 ∷ y.0 ∷ ud.octets;
      written = record { first = x.0; second = y.0; whole = whole_at ud n x.0 y.0 refl; first_used = x.1.used; second_used = y.1.used; sealed = sealed };
      are = octets_both front (x.0 ∷ y.0 ∷ ud.octets) header (x.1.used.1, (y.1.used.1, octets));
    }

-- ---- calls

-- what came up gives its events
heard_some : (systems : List ClSystem) (ups : List (Up (List ℕ))) → (heard : List Event) × HearsAll systems ups heard
heard_some systems [] = ([], refl)
heard_some systems (Noted note ∷ ups) = heard_some systems ups
heard_some systems (Came arrival ∷ ups) =
    let here = one_hearing.some systems arrival in
    let rest = heard_some systems ups in
    (here.0 ++ rest.0, (here.0, rest.0, here.1, rest.1, refl))

module _ {C : Type 0} (link : C → Link (List ℕ)) (steps : C → Call (List ℕ) → C → Type 0) (keeps : (old : C) (call : Call (List ℕ)) (new : C) → steps old call new → Keeps (link old) call (link new))
    (is_address : List ℕ → Bool) (Stands : C → Type 0) (serves : Serves is_address link steps Stands) where
  -- events, and a network that serves
  record Makes (old : World C) (Runs : List Event → World C → Type 0) : Type 0 where
    made : List Event
    new : World C
    runs : Runs made new
    stands : Stands new.carrier
    same : new.systems ≡ old.systems

  arrived : (old : World C) (call : Call (List ℕ)) (own : Event) (called : C) → Stands old.carrier → CanBeAsked is_address (link old.carrier) (asked_of call) → steps old.carrier call called
      → Makes old (Arrives link steps old call own)
  arrived old call own called stands may s =
      let up = some_gathering link steps keeps is_address Stands serves.answers called (serves.answers.stays old.carrier call called stands may s) in
      let heard = heard_some old.systems up.0 in
      let later = told up.0 ++ heard.0 in
      record {
        made = own ∷ later;
        new = record { carrier = up.1; systems = old.systems };
        runs = record {
          called = called;
          later = later;
          steps_to = s;
          takes_up = record { ups = up.0; heard = heard.0; gathers = up.2; hears = heard.1; made_is = refl };
          made_is = refl;
          same = refl;
        };
        stands = up.3;
        same = refl;
      }

  record Sent (old : World C) (system : ℕ) (request : Request) (long : Bool) : Type 0 where
    answer : ClAnswer
    makes : Makes old (SendsIf link steps long old system request answer)

  sent : (long : Bool) (old : World C) (system : ℕ) (request : Request) → Stands old.carrier → CanSend is_address old.systems system request → Sent old system request long
  sent true old system request stands may = record {
    answer = replies.TooLong;
    makes = record { made = events.No TooLong ∷ []; new = old; runs = (refl, refl, refl); stands = stands; same = refl };
  }
  sent false old system request stands may =
      let w = some_writing (ud_for request) may.from_selector may.to_selector may.from_octets may.to_octets may.octets in
      let unit : CarriedUnit (List ℕ) = record { from = may.own.own; to = request.to; octets = w.octets } in
      let fits : MayBeOffered is_address unit = record { from = may.from; to = may.to; octets = w.are } in
      let a = serves.answers.answered old.carrier (Offering unit ud_wish) stands fits in
      let done = answered_by steps old.carrier (Offering unit ud_wish) a in
      let m = arrived old (Offer unit ud_wish done.0) (send_event system request done.0) a.new stands fits done.1 in
      record {
        answer = answer_of done.0;
        makes = record {
          made = m.made;
          new = m.new;
          runs = record { own = may.own; octets = w.octets; offered = done.0; own_is = may.own_is; written = w.written; arrives = m.runs; answer_is = refl };
          stands = m.stands;
          same = m.same;
        };
      }

  record Delivered (old : World C) (number system : ℕ) : Type 0 where
    answer : Picked
    makes : Makes old (Delivers link steps old number system answer)
    picked : IsTrue ((link old.carrier).takes number system) → answer ≡ WasPicked

  delivered : (old : World C) (number system : ℕ) → Stands old.carrier → Delivered old number system
  delivered old number system stands =
      let a = serves.answers.answered old.carrier (Choosing number system) stands tt in
      let done = answered_by steps old.carrier (Choosing number system) a in
      let k = keeps old.carrier (Choose number system done.0) a.new done.1 in
      record {
        answer = done.0;
        makes = arrived old (Choose number system done.0) (picked_event number system done.0) a.new stands tt done.1;
        picked = k.answers.1;
      }

  -- ---- settling

  record Ends (count : ℕ) (old : World C) : Type 0 where
    answer : Settled
    makes : Makes old (Settles link steps count old answer)

  ends_none : (count : ℕ) (old : World C) → IsLeastFresh (link old.carrier) None → Stands old.carrier → Ends count old
  ends_none count old is stands = record {
    answer = settled.Settled count;
    makes = record { made = events.Settle (settled.Settled count) ∷ []; new = old; runs = NoneLeft count old (settled.Settled count) _ old is refl refl refl; stands = stands; same = refl };
  }

  ends_last : (count : ℕ) (old : World C) (least : Option (ℕ × ℕ)) → IsLeastFresh (link old.carrier) least → count ≡ 65536 → Stands old.carrier → Ends count old
  ends_last count old None is all stands = ends_none count old is stands
  ends_last count old (Some pair) is all stands = record {
    answer = settled.Stopped count;
    makes = record { made = events.Settle (settled.Stopped count) ∷ []; new = old; runs = TooMany count old (settled.Stopped count) _ old pair is all refl refl refl; stands = stands; same = refl };
  }

  abbrev Ending : ℕ → Type 0
  Ending fuel = (count : ℕ) (old : World C) → count + fuel ≡ 65536 → Stands old.carrier → Ends count old

  ends_next : (fuel : ℕ) → Ending fuel → (count : ℕ) (old : World C) (least : Option (ℕ × ℕ)) → IsLeastFresh (link old.carrier) least → count + suc fuel ≡ 65536 → Stands old.carrier → Ends count old
  ends_next fuel next count old None is full stands = ends_none count old is stands
  ends_next fuel next count old (Some pair) is full stands =
      let d = delivered old pair.0 pair.1 stands in
      let answer : d.answer ≡ WasPicked = d.picked (takes_first ((link old.carrier).takes pair.0 pair.1) (not ((link old.carrier).took pair.0 pair.1)) is.0) in
      let here = subst (λ (a : Picked). Makes old (Delivers link steps old pair.0 pair.1 a)) answer d.makes in
      let rest = next (count + 1) here.new (omega (arith, full)) here.stands in
      record {
        answer = rest.answer;
        makes = record {
          made = here.made ++ rest.makes.made;
          new = rest.makes.new;
          runs = OneMore count old rest.answer (here.made ++ rest.makes.made) rest.makes.new pair here.new here.made rest.makes.made is (omega (arith, full)) here.runs rest.makes.runs refl;
          stands = rest.makes.stands;
          same = rest.makes.same ∙ here.same;
        };
      }

  ends : (fuel : ℕ) → Ending fuel
  ends zero = λ count old full stands. let l = serves.least old.carrier stands in ends_last count old l.0 l.1 (omega (arith, full)) stands
  ends (suc fuel) = λ count old full stands. let l = serves.least old.carrier stands in ends_next fuel (ends fuel) count old l.0 l.1 full stands

  -- ---- all calls

  some_call : (old : World C) (call : ClCall) → Stands old.carrier → CanRun is_address link old call → HasRun link steps Stands old call
  some_call old (Sending system request) stands may =
      let s = sent (nat_lt 16000 (length request.octets)) old system request stands may in
      record { made = s.makes.made; new = s.makes.new; runs = (may.from_selector, may.to_selector, (s.answer, s.makes.runs)); stands = s.makes.stands; same = s.makes.same }
  some_call old (Delivering number system) stands may =
      let d = delivered old number system stands in
      record { made = d.makes.made; new = d.makes.new; runs = (d.answer, d.makes.runs); stands = d.makes.stands; same = d.makes.same }
  some_call old TicksOnce stands may =
      let a = serves.answers.answered old.carrier Ticking stands may in
      let m = arrived old Tick (events.Tick ((link old.carrier).clock + 1)) a.new stands may (answered_by steps old.carrier Ticking a) in
      record { made = m.made; new = m.new; runs = m.runs; stands = m.stands; same = m.same }
  some_call old Settling stands may =
      let e = ends 65536 0 old refl stands in
      record { made = e.makes.made; new = e.makes.new; runs = (e.answer, e.makes.runs); stands = e.makes.stands; same = e.makes.same }

  some_begin : (first : C) (systems : List ClSystem) → Stands first → HasStart link steps Stands first systems
  some_begin first systems stands =
      let up = some_gathering link steps keeps is_address Stands serves.answers first stands in
      let heard = heard_some systems up.0 in
      let later = told up.0 ++ heard.0 in
      record {
        made = events.Tick 0 ∷ later;
        new = record { carrier = up.1; systems = systems };
        starts = record { later = later; takes_up = record { ups = up.0; heard = heard.0; gathers = up.2; hears = heard.1; made_is = refl }; made_is = refl; same = refl };
        stands = up.3;
      }

-- the largest set of states in which a carrier serves is one in which it does
serves_on : {C : Type 0} (is_address : List ℕ → Bool) (link : C → Link (List ℕ)) (steps : C → Call (List ℕ) → C → Type 0) → Serves is_address link steps (ServesOn is_address link steps)
serves_on is_address link steps = record {
  answers = record {
    answered = λ old asked stands may. (stands [] old refl).answered asked may;
    stays = λ old call new stands may step. λ calls last course. stands (call ∷ calls) last (may, (new, step, course));
  };
  least = λ old stands. (stands [] old refl).least;
}

pub some_run : {C : Type 0} (link : C → Link (List ℕ)) (steps : C → Call (List ℕ) → C → Type 0) → ((old : C) (call : Call (List ℕ)) (new : C) → steps old call new → Keeps (link old) call (link new))
    → SomeRun link steps
some_run link steps keeps is_address = some_call link steps keeps is_address (ServesOn is_address link steps) (serves_on is_address link steps)

pub some_start : {C : Type 0} (link : C → Link (List ℕ)) (steps : C → Call (List ℕ) → C → Type 0) → ((old : C) (call : Call (List ℕ)) (new : C) → steps old call new → Keeps (link old) call (link new))
    → SomeStart link steps
some_start link steps keeps is_address = some_begin link steps keeps is_address (ServesOn is_address link steps) (serves_on is_address link steps)
