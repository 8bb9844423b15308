-- Over LANs with the ports of the end systems a frame on its way has a sender, a LAN and the room: it is dropped where the LANs are full alone.
use Rattle.std.proofs.Common.{◌≡◌, ℕ, ◌+◌, ◌≤◌, ◌==◌, Bool, true, false, cond, List, ◌∷◌, length, Option, Some, None, refl, sym, ◌∙◌, ap, subst, arith}
use Rattle.std.specs.Prelude.{◌&&◌, ◌||◌, not, is_some, nat_lt, if◌then◌else◌}
use Rattle.std.proofs.lemmas.Bool.{le-ltb, lt-ltb}
use Rattle.osi_base.specs.declared.unit.DropCause.TheVariants.{Full, NoRoute, TooLong}
use Rattle.osi_base.specs.declared.unit.Offered.{Offered}
use Rattle.osi_base.specs.declared.unit.Offered.TheVariants.{Taken as WasTaken, Dropped}
use Rattle.osi_base.specs.declared.unit.Unit.{Unit as CarriedUnit}
use Rattle.lan_step.specs.Bag.{Bag, BagStep, link_of}
use Rattle.lan_step.specs.Offers.{offered}
use Rattle.lan_step.specs.Rows.{room_on, sender_of}
use Rattle.inactive_step.specs.declared.row.InactiveRow.{InactiveRow}
use Rattle.inactive_step.specs.declared.row.Way.{Way}
use Rattle.inactive_step.specs.Frames.{frame_on}
use Rattle.inactive_step.specs.Way.{are_two_on_one_lan, way_between, way_from}
use Rattle.inactive_step.specs.Network.{Inactive}
use Rattle.inactive_step.specs.Rows.{IsPromised, row_at}
use Rattle.inactive_step.specs.Sound.{IsSound}
use Rattle.inactive_step.specs.Step.{InactiveOffers, Long, NoWay, Sent}
use Rattle.inactive_step.proofs.Found.{found_of}
use Rattle.inactive_step.proofs.Seen.{ends_of}
use Rattle.law_inactive_answers.specs.Laws.{AnswersExactly}
use Rattle.law_inactive_answers.specs.Offering.{ArePorts, are_full, offered_on}

first_part : (a b : Bool) → (a && b) ≡ true → a ≡ true
first_part true b e = refl
first_part false b e = absurd cc

-- both ends of a way are on one LAN
on_one_lan : (rows : List InactiveRow) (from to : List ℕ) (way : Way) → way_from rows from to ≡ Some way → (way.source.port.lan == way.goal.port.lan) ≡ true
on_one_lan rows from to way is = by (row_at rows from) (row_at rows to) is
  where
    by : (a b : Option InactiveRow) → way_between a b ≡ Some way → (way.source.port.lan == way.goal.port.lan) ≡ true
    by None b i = absurd cc
    by (Some source) None i = absurd cc
    by (Some source) (Some goal) i = both (are_two_on_one_lan source goal) refl i
      where
        both : (t : Bool) → are_two_on_one_lan source goal ≡ t → cond t (Some (record { source = source; goal = goal })) None ≡ Some way → (way.source.port.lan == way.goal.port.lan) ≡ true
        both false e j = absurd cc
        both true e j =
            let same : record { source = source; goal = goal } ≡ way = cc in
            subst (λ (w : Way). (w.source.port.lan == w.goal.port.lan) ≡ true) same (first_part (source.port.lan == goal.port.lan) _ e)

third : (sender lan long full : Bool) → sender ≡ true → lan ≡ true → long ≡ false
    → (if not sender || not lan then Dropped NoRoute else if long then Dropped TooLong else if full then Dropped Full else WasTaken) ≡ (if full then Dropped Full else WasTaken)
third true true false full a b c = refl
third true true true full a b c = absurd cc
third true false long full a b c = absurd cc
third false lan long full a b c = absurd cc

there_is : (found : Option ℕ) (system : ℕ) → found ≡ Some system → is_some found ≡ true
there_is found system e = ap is_some e

module _ (old : Inactive Bag) (unit : CarriedUnit (List ℕ)) (sound : IsSound link_of old) (ports : ArePorts old.link.rows old.rows) where
  on_way : (way : Way) → way_from old.rows unit.from unit.to ≡ Some way → length unit.octets + 1 ≤ way.goal.room
      → offered old.link.lans old.link.rows old.link.frames (frame_on way unit.octets) ≡ (if are_full old.link then Dropped Full else WasTaken)
  on_way way is short =
      let ends = ends_of old.rows unit.from unit.to way is in
      let sender : sender_of old.link.rows way.source.port ≡ Some way.source.system =
      found_of (λ (row : InactiveRow). sender_of old.link.rows row.port ≡ Some row.system) _ old.rows way.source ports ends.source in
      let promised : IsPromised (link_of old.link) way.goal = found_of (IsPromised (link_of old.link)) _ old.rows way.goal sound.served.promised ends.goal in
      third (is_some (sender_of old.link.rows way.source.port)) (way.source.port.lan == way.goal.port.lan) (nat_lt (room_on old.link.lans way.goal.port.lan) (length (0 ∷ unit.octets))) (are_full old.link)
      (there_is (sender_of old.link.rows way.source.port) way.source.system sender) (on_one_lan old.rows unit.from unit.to way is)
      (fits (room_on old.link.lans way.goal.port.lan) promised.room)
    where
      fits : (room : ℕ) → room ≡ way.goal.room → nat_lt room (length (0 ∷ unit.octets)) ≡ false
      fits room e = le-ltb room (length (0 ∷ unit.octets)) (omega (arith, e, short))

  exactly : (answer : Offered) (new : Inactive Bag) → InactiveOffers link_of BagStep old unit answer new → answer ≡ offered_on old.link unit (way_from old.rows unit.from unit.to)
  exactly answer new (NoWay none is same) = is ∙ sym (ap (offered_on old.link unit) none)
  exactly answer new (Long way found long is same) =
      is ∙ sym (ap (offered_on old.link unit) found ∙ ap (λ (b : Bool). if b then Dropped TooLong else if are_full old.link then Dropped Full else WasTaken) (lt-ltb way.goal.room (length unit.octets + 1) long))
  exactly answer new (Sent way ups below found short brings becomes) =
      brings.calls.0 ∙ on_way way found short
      ∙ sym (ap (offered_on old.link unit) found ∙ ap (λ (b : Bool). if b then Dropped TooLong else if are_full old.link then Dropped Full else WasTaken) (le-ltb way.goal.room (length unit.octets + 1) short))

pub answers_exactly : AnswersExactly
answers_exactly old unit wish answer new ports step = exactly old unit step.0 ports answer new step.1
