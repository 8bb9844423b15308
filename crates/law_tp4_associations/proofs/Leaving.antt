-- An end of a pair leaves: its DR comes behind all that it sent, and the other end takes it; what waits is data before that.
use Rattle.std.proofs.Common.{◌≡◌, ◌⊎◌, ℕ, true, List, [], ◌∷◌, ◌++◌, Option, Some, refl, sym, ◌∙◌, ap, subst, inl, inr, append_assoc}
use Rattle.tp4_flow.specs.declared.rules.FlowRules.{FlowRules}
use Rattle.tpdu.specs.declared.service.Options.{Options}
use Rattle.tp4_flow.specs.declared.step.Sent.{Sent}
use Rattle.tp4_conn.specs.declared.end_record.EndRecord.{EndRecord}
use Rattle.tp4_conn.specs.declared.halves.Halves.{Halves}
use Rattle.tp4_conn.specs.declared.states.InOpened.{InOpened}
use Rattle.tp4_conn.specs.declared.states.InClosing.{InClosing}
use Rattle.tp4_conn.specs.declared.states.StateData.{StateData}
use Rattle.tp4_conn.specs.declared.states.StateData.TheVariants.{Opened, Closing}
use Rattle.tp4_conn.specs.End.{Moved, agreed_format, agreed_sum, release}
use Rattle.tp4_conn.specs.Matching.{sum_agreed}
use Rattle.law_tp4_pair.specs.Pair.{Account}
use Rattle.law_tp4_pair.specs.Standing.{AreBoth, HasLeft, party}
use Rattle.law_tp4_pair.specs.Waiting.{AreData}
use Rattle.law_tp4_pair.proofs.Wires.{data_then}
use Rattle.law_tp4_associations.specs.Phase.{AllCome, AreParting, Has, HearsData, IsReleaseOf, Knows, SendsFor, WillFreeze, Writes}
use Rattle.law_tp4_associations.proofs.Freezing.{come_then, data_come, has_right, release_comes}
use Rattle.law_tp4_associations.proofs.Writing.{Closes, Open_on, Stays}

-- what two ends that agreed know of each other
pub record AreJoined (b c : EndRecord) (here there : List ℕ) (one other : FlowRules) : Type 0 where
  pub options : Options
  pub mine : b.agreed ≡ Some options
  pub theirs : c.agreed ≡ Some options
  pub partner : b.partner ≡ c.own
  pub partner_back : c.partner ≡ b.own
  pub to : b.to ≡ there
  pub to_back : c.to ≡ here
  pub rules_to : one.to ≡ there
  pub rules_partner : one.partner ≡ c.own
  pub rules_format : one.format ≡ options.format
  pub rules_sum : one.sum ≡ options.sum
  pub back_to : other.to ≡ here
  pub back_partner : other.partner ≡ b.own
  pub back_format : other.format ≡ options.format
  pub back_sum : other.sum ≡ options.sum

turned : (b c : EndRecord) (here there : List ℕ) (one other : FlowRules) → AreJoined b c here there one other → AreJoined c b there here other one
turned b c here there one other j = record {
  options = j.options;
  mine = j.theirs;
  theirs = j.mine;
  partner = j.partner_back;
  partner_back = j.partner;
  to = j.to_back;
  to_back = j.to;
  rules_to = j.back_to;
  rules_partner = j.back_partner;
  rules_format = j.back_format;
  rules_sum = j.back_sum;
  back_to = j.rules_to;
  back_partner = j.rules_partner;
  back_format = j.rules_format;
  back_sum = j.rules_sum;
}

pub joined : (b c : EndRecord) (here there : List ℕ) (h k : Halves) (forth back : List Sent) (u v : Account) (both : AreBoth (party b) (party c) h k forth back u v) → b.to ≡ there → c.to ≡ here
    → AreJoined b c here there both.one_rules both.other_rules
joined b c here there h k forth back u v both to to_back = record {
  options = both.options;
  mine = both.one.agreed_is;
  theirs = both.other.agreed_is;
  partner = both.partner;
  partner_back = both.partner_back;
  to = to;
  to_back = to_back;
  rules_to = both.one.to ∙ to;
  rules_partner = both.one.partner ∙ both.partner;
  rules_format = both.one.format;
  rules_sum = both.one.sum;
  back_to = both.other.to ∙ to_back;
  back_partner = both.other.partner ∙ both.partner_back;
  back_format = both.other.format;
  back_sum = both.other.sum;
}

-- one end after a row that leaves it Opened or has it close: its base but for the clock, its state and what waits from it
pub data IsSide (rules : FlowRules) (b : EndRecord) (stage : StateData) (from : List Sent) : Type 0 where
  Still : (o : InOpened) → stage ≡ Opened o → o.halves.sending.rules ≡ rules → o.halves.receiving.rules ≡ rules → AreData rules from → IsSide rules b stage from
  Parted : (c : InClosing) (before : List Sent) (reason : ℕ) (octets : List ℕ) → stage ≡ Closing c → AreData rules before → from ≡ before ++ release b reason octets ∷ [] → IsSide rules b stage from

pub side : (rules : FlowRules) (b : EndRecord) (m : Moved) (before : List Sent) → AreData rules before → Stays rules b m → IsSide rules b m.stage (before ++ m.tpdus)
side rules b m before data_are (Open_on o base stage s r d) = Still o stage s r (data_then rules before m.tpdus data_are d)
side rules b m before data_are (Closes c sent reason octets base stage d tpdus) =
    Parted c (before ++ sent) reason octets stage (data_then rules before sent data_are d) (ap (λ (l : List Sent). before ++ l) tpdus ∙ sym (append_assoc before sent (release b reason octets ∷ [])))

some_sum : (options : Options) (agreed other : Option Options) → agreed ≡ Some options → other ≡ Some options → sum_agreed other ≡ true → agreed_sum agreed ≡ true
some_sum options agreed other a o is = ap agreed_sum a ∙ sym (ap sum_agreed o) ∙ is

-- the terms fit the other end, whatever it does
sends_for : (b c : EndRecord) (stage : StateData) (here there : List ℕ) (one other : FlowRules) → AreJoined b c here there one other → SendsFor (record { base = c; stage = stage }) there one
sends_for b c stage here there one other j = record {
  to = j.rules_to;
  partner = j.rules_partner;
  format = j.rules_format ∙ ap agreed_format (sym j.theirs);
  sum = λ is. j.rules_sum ∙ sym (ap sum_agreed j.theirs) ∙ is;
}

knows_it : (b c : EndRecord) (mine theirs : StateData) (here there : List ℕ) (one other : FlowRules) → AreJoined b c here there one other
    → Writes mine (record { base = c; stage = theirs }) there → Knows (record { base = b; stage = mine }) (record { base = c; stage = theirs }) there
knows_it b c mine theirs here there one other j writes = record { partner = inr j.partner; to = j.to; sum = some_sum j.options b.agreed c.agreed j.mine j.theirs; writes = writes }

-- what waits from a side comes to the other one
from_side : (b c : EndRecord) (mine theirs : StateData) (here there : List ℕ) (one other : FlowRules) (l : List Sent) → AreJoined b c here there one other → HearsData theirs → IsSide one b mine l
    → AllCome (record { base = c; stage = theirs }) b.own there l
from_side b c mine theirs here there one other l j hears (Still o is s r d) = data_come (record { base = c; stage = theirs }) b.own there one l (sends_for b c theirs here there one other j) hears d
from_side b c mine theirs here there one other l j hears (Parted k before reason octets is d from) =
    subst (AllCome (record { base = c; stage = theirs }) b.own there) (sym from)
    (come_then (record { base = c; stage = theirs }) b.own there before (release b reason octets ∷ [])
    (data_come (record { base = c; stage = theirs }) b.own there one before (sends_for b c theirs here there one other j) hears d)
    (release_comes (record { base = b; stage = mine }) (record { base = c; stage = theirs }) there reason octets j.partner j.to (some_sum j.options b.agreed c.agreed j.mine j.theirs), tt))

hears_side : (rules : FlowRules) (b : EndRecord) (stage : StateData) (l : List Sent) → IsSide rules b stage l → HearsData stage
hears_side rules b stage l (Still o is s r d) = subst HearsData (sym is) tt
hears_side rules b stage l (Parted c before reason octets is d from) = subst HearsData (sym is) tt

writes_side : (b c : EndRecord) (mine theirs : StateData) (here there : List ℕ) (one other : FlowRules) (l : List Sent) → AreJoined b c here there one other → IsSide one b mine l
    → Writes mine (record { base = c; stage = theirs }) there
writes_side b c mine theirs here there one other l j (Still o is s r d) =
    subst (λ (v : StateData). Writes v (record { base = c; stage = theirs }) there) (sym is) (record { rules = one; sending = s; receiving = r; fits = sends_for b c theirs here there one other j })
writes_side b c mine theirs here there one other l j (Parted k before reason octets is d from) = subst (λ (v : StateData). Writes v (record { base = c; stage = theirs }) there) (sym is) tt

-- the first end of the two freezes: `into` is from the other side
freezes_side : (one other : FlowRules) (b c : EndRecord) (mine theirs : StateData) (into out : List Sent) → HasLeft mine ⊎ HasLeft theirs → IsSide one b mine out → IsSide other c theirs into
    → WillFreeze b.own c.own mine theirs into out
freezes_side one other b c mine theirs into out left (Still o is s r d) (Still q was t u e) =
    absurd (elim left [ inl l ↦ subst HasLeft is l | inr l ↦ subst HasLeft was l ])
freezes_side one other b c mine theirs into out left (Still o is s r d) (Parted k before reason octets was e from) =
    subst (λ (v : StateData). WillFreeze b.own c.own v theirs into out) (sym is) (subst (λ (v : StateData). WillFreeze b.own c.own (Opened o) v into out) (sym was)
    (subst (Has (IsReleaseOf c.own)) (sym from) (has_right (IsReleaseOf c.own) before (release c reason octets ∷ []) (inl refl))))
freezes_side one other b c mine theirs into out left (Parted k before reason octets is d from) (Still q was t u e) =
    subst (λ (v : StateData). WillFreeze b.own c.own v theirs into out) (sym is) (subst (λ (v : StateData). WillFreeze b.own c.own (Closing k) v into out) (sym was) tt)
freezes_side one other b c mine theirs into out left (Parted k before reason octets is d from) (Parted m sent why text was e comes) =
    subst (λ (v : StateData). WillFreeze b.own c.own v theirs into out) (sym is) (subst (λ (v : StateData). WillFreeze b.own c.own (Closing k) v into out) (sym was)
    (subst (Has (IsReleaseOf c.own)) (sym comes) (has_right (IsReleaseOf c.own) sent (release c why text ∷ []) (inl refl))))

swapped : {A B : Type 0} → A ⊎ B → B ⊎ A
swapped (inl a) = inr a
swapped (inr b) = inl b

-- two ends that agreed, one of which has just left
pub parted : (b c : EndRecord) (mine theirs : StateData) (here there : List ℕ) (one other : FlowRules) (forth back : List Sent) → AreJoined b c here there one other → HasLeft mine ⊎ HasLeft theirs
    → IsSide one b mine forth → IsSide other c theirs back → AreParting (record { base = b; stage = mine }) (record { base = c; stage = theirs }) here there back forth
parted b c mine theirs here there one other forth back j left x y = record {
  one = record {
    into_are = from_side c b theirs mine there here other one back (turned b c here there one other j) (hears_side one b mine forth x) y;
    knows = knows_it b c mine theirs here there one other j (writes_side b c mine theirs here there one other forth j x);
    freezes = freezes_side one other b c mine theirs back forth left x y;
  };
  next = record {
    into_are = from_side b c mine theirs here there one other forth j (hears_side other c theirs back y) x;
    knows = knows_it c b theirs mine there here other one (turned b c here there one other j) (writes_side c b theirs mine there here other one back (turned b c here there one other j) y);
    freezes = freezes_side other one c b theirs mine forth back (swapped left) y x;
  };
}
