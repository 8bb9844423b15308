-- What waits first: it goes to the other side's system, and data are in the format of the end that they come to. What may happen where nothing waits.
use Rattle.std.proofs.Common.{◌≡◌, ◌⊎◌, ℕ, ◌≤◌, Bool, true, false, not, List, [], ◌∷◌, slice_get, Some, refl, sym, ◌∙◌, ap, subst, inl, inr, arith}
use Rattle.tpdu.specs.Kinds.{has_number}
use Rattle.tpdu.specs.Values.{destination_of}
use Rattle.tpdu.specs.Writing.{kind_for}
use Rattle.tpdu.specs.declared.tpdu.Tpdu.{Tpdu}
use Rattle.tpdu.specs.declared.tpdu.Tpdu.TheVariants.{Cr, Cc, Dr, Dc, Dt, Ed, Ak, Ea, Er}
use Rattle.tpdu.specs.declared.service.Options.{Options}
use Rattle.tp4_flow.specs.declared.step.Sent.{Sent}
use Rattle.tp4_conn.specs.declared.states.InCrWait.{InCrWait}
use Rattle.tp4_conn.specs.declared.states.StateData.{StateData}
use Rattle.tp4_conn.specs.declared.states.StateData.TheVariants.{CrWait, WaitBeforeClose, UserWait, Frozen}
use Rattle.tp4_conn.specs.declared.timers.Timers.{Timers}
use Rattle.tp4_conn.specs.Agreeing.{confirm, request}
use Rattle.tp4_conn.specs.declared.proposed.Proposed.{Proposed}
use Rattle.tp4_conn.specs.End.{End, IsProposal, IsSized, IsTimed, agreed_format}
use Rattle.tp4_conn.proofs.Sizes.{proposal_by}
use Rattle.tp4_entity.specs.Entity.{Entity}
use Rattle.tp4_world.specs.World.{entity_at}
use Rattle.tp4_world.specs.declared.place.Placed.{Placed}
use Rattle.law_tp4_pair.specs.Pair.{Accepts, Pair}
use Rattle.law_tp4_pair.specs.Standing.{AreBoth, Both, Confirming, First, HasLeft, Left, Party, Stands, party}
use Rattle.law_tp4_pair.specs.Waiting.{AreData, IsDataFor}
use Rattle.law_tp4_pair.proofs.Meeting.{back_met, forth_met}
use Rattle.law_tp4_associations.specs.Association.{Association, Posted, system_of, waiting}
use Rattle.law_tp4_associations.specs.Laws.{Addressed, Answerable, Formatted, MayAccept}
use Rattle.law_tp4_associations.specs.Handing.{IsFormatted}
use Rattle.law_tp4_associations.specs.Phase.{Answered, Asking, IsAsking, IsFrozen, IsPaired, IsRefusal, IsRequest, Late, Leaving, MayCome, Over, Paired, Phase, Refused, Rejected, Waiting, WillFreeze}
use Rattle.law_tp4_associations.specs.Standing.{IsAssociation, Standing}
use Rattle.law_tp4_associations.proofs.Handed.{place_of}
use Rattle.law_tp4_associations.proofs.Phases.{frozen_called}
use Rattle.law_tp4_associations.proofs.Places.{same_some}
use Rattle.law_tp4_associations.proofs.Spots.{waiting_first}

first_is : (x y : Sent) (l m : List Sent) → x ∷ l ≡ y ∷ m → x ≡ y
first_is x y l m e = cc

none_first : {A : Type 0} (x : Sent) (l : List Sent) → x ∷ l ≡ [] → A
none_first x l e = absurd (cc e)

-- ---- kinds

request_plain : (n : ℕ) (tpdu : Tpdu) → IsRequest n tpdu → has_number (kind_for tpdu) ≡ true → ⊥
request_plain n (Cr credit source width calling called size preferred extra version classes ack_time text) is e = cc e
request_plain n other is e = is

refusal_plain : (n : ℕ) (tpdu : Tpdu) → IsRefusal n tpdu → has_number (kind_for tpdu) ≡ true → ⊥
refusal_plain n (Dr destination source reason info text) is e = cc e
refusal_plain n other is e = is

data_for : (n m : ℕ) (tpdu : Tpdu) → n ≡ m → IsDataFor n tpdu → destination_of tpdu ≡ Some m
data_for n m (Dt destination last number text) same is = ap Some (is ∙ same)
data_for n m (Ed destination last number text) same is = ap Some (is ∙ same)
data_for n m (Ak destination number credit subsequence confirmation) same is = ap Some (is ∙ same)
data_for n m (Ea destination number) same is = ap Some (is ∙ same)
data_for n m other same is = absurd is

numbered_for : (z : End) (other : ℕ) (tpdu : Tpdu) → MayCome z other tpdu → has_number (kind_for tpdu) ≡ true → destination_of tpdu ≡ Some z.base.own
numbered_for z other (Er destination cause rejected) m e = absurd m
numbered_for z other (Cr credit source width calling called size preferred extra version classes ack_time text) m e = absurd (cc e)
numbered_for z other (Cc credit destination source width calling called size preferred extra version classes ack_time text) m e = absurd (cc e)
numbered_for z other (Dr destination source reason info text) m e = absurd (cc e)
numbered_for z other (Dc destination source) m e = absurd (cc e)
numbered_for z other another m e = ap Some m.0

-- ---- what waits for the called end, for the calling end

pub record IsToEnd (z : End) (sent : Sent) : Type 0 where
  pub destination : destination_of sent.tpdu ≡ Some z.base.own
  pub format : sent.format ≡ agreed_format z.base.agreed

-- data between two ends that agreed
both_format : (now : ℕ) (first second : Party) (z : End) (h k : _) (sent : Sent) (rest forth back : List Sent) (u v : _) (both : AreBoth first second h k forth back u v) → forth ≡ sent ∷ rest → second ≡ party z.base → IsToEnd z sent
both_format now first second z h k sent rest forth back u v both forth_is same =
    let all : AreData both.one_rules (sent ∷ rest) = subst (AreData both.one_rules) forth_is both.forth_are in
    record {
      destination = data_for both.one_rules.partner z.base.own sent.tpdu (both.one.partner ∙ both.partner ∙ ap (λ (w : Party). w.own) same) all.0.kind;
      format = all.0.format ∙ both.one.format ∙ ap agreed_format (sym both.other.agreed_is ∙ ap (λ (w : Party). w.agreed) same);
    }

back_format : (first second : Party) (z : End) (h k : _) (sent : Sent) (rest forth back : List Sent) (u v : _) (both : AreBoth first second h k forth back u v) → back ≡ sent ∷ rest → first ≡ party z.base → IsToEnd z sent
back_format first second z h k sent rest forth back u v both back_is same =
    let all : AreData both.other_rules (sent ∷ rest) = subst (AreData both.other_rules) back_is both.back_are in
    record {
      destination = data_for both.other_rules.partner z.base.own sent.tpdu (both.other.partner ∙ both.partner_back ∙ ap (λ (w : Party). w.own) same) all.0.kind;
      format = all.0.format ∙ both.other.format ∙ ap agreed_format (sym both.one.agreed_is ∙ ap (λ (w : Party). w.agreed) same);
    }

module _ (timers : Timers) (own : ℕ → List ℕ) (now : ℕ) (a : Association) (sent : Sent) (rest : List Sent) where
  pub forth_to : (back : List Sent) → IsAssociation timers own now a (sent ∷ rest) back → sent.to ≡ own a.to
  forth_to back i = by i.phase
    where
      by : Phase timers (own a.from.system) (own a.to) now a (sent ∷ rest) back → sent.to ≡ own a.to
      by (Asking x r calling called asks stage forth_is back_is) = ap (λ (s : Sent). s.to) (first_is sent (request x.base r.octets) rest [] forth_is) ∙ (i.caller x calling).to
      by (Rejected x refusal calling called asks forth_is back_is to is) = none_first sent rest forth_is
      by (Waiting x y since calling called asks indicated requests back_is) = requests.0
      by (Late x y when since calling called stage unagreed indicated before forth_is back_is) = none_first sent rest forth_is
      by (Refused x y first others calling called asks frozen held unagreed requests back_is refusals) = requests.0
      by (Answered x y w calling called asks stage confirming forth_is) = none_first sent rest forth_is
      by (Paired p calling called paired) = (forth_met p sent rest paired.stays paired.stands paired.forth_is).to ∙ (i.caller p.calling calling).to
      by (Leaving x y calling called parting held_x held_y) = parting.next.into_are.0.to
      by (Over calling called forth_is back_is) = none_first sent rest forth_is

  pub back_to : (forth : List Sent) → IsAssociation timers own now a forth (sent ∷ rest) → sent.to ≡ own a.from.system
  back_to forth i = by i.phase
    where
      by : Phase timers (own a.from.system) (own a.to) now a forth (sent ∷ rest) → sent.to ≡ own a.from.system
      by (Asking x r calling called asks stage forth_is back_is) = none_first sent rest back_is
      by (Rejected x refusal calling called asks forth_is back_is to is) = ap (λ (s : Sent). s.to) (first_is sent refusal rest [] back_is) ∙ to
      by (Waiting x y since calling called asks indicated requests back_is) = none_first sent rest back_is
      by (Late x y when since calling called stage unagreed indicated before forth_is back_is) = none_first sent rest back_is
      by (Refused x y first others calling called asks frozen held unagreed requests back_is refusals) = refusals.0
      by (Answered x y w calling called asks stage confirming forth_is) =
          ap (λ (s : Sent). s.to) (first_is sent (confirm y.base confirming.options confirming.octets) rest [] confirming.back_is) ∙ (i.called y called).to
      by (Paired p calling called paired) = (back_met p sent rest paired.stays paired.stands paired.back_is).to ∙ (i.called p.called called).to
      by (Leaving x y calling called parting held_x held_y) = parting.one.into_are.0.to
      by (Over calling called forth_is back_is) = none_first sent rest back_is

  pub forth_formatted : (back : List Sent) → IsAssociation timers own now a (sent ∷ rest) back → has_number (kind_for sent.tpdu) ≡ true → (z : End) × (a.called ≡ Some z) × IsToEnd z sent
  forth_formatted back i numbered = by i.phase
    where
      in_pair : (p : Pair) → a.called ≡ Some p.called → IsPaired now p (sent ∷ rest) back → Stands p → (z : End) × (a.called ≡ Some z) × IsToEnd z sent
      in_pair p called paired (Left left) = absurd (paired.stays left)
      in_pair p called paired (Confirming r w mine theirs new c) = none_first sent rest (sym paired.forth_is ∙ c.forth_is)
      in_pair p called paired (First o w mine theirs f) = (p.called, called, both_format now _ _ p.called _ _ sent rest p.forth [] _ _ (f.both now) paired.forth_is refl)
      in_pair p called paired (Both o q mine theirs both) = (p.called, called, both_format now _ _ p.called _ _ sent rest p.forth p.back _ _ both paired.forth_is refl)

      by : Phase timers (own a.from.system) (own a.to) now a (sent ∷ rest) back → (z : End) × (a.called ≡ Some z) × IsToEnd z sent
      by (Asking x r calling called asks stage forth_is back_is) =
          absurd (request_plain x.base.own sent.tpdu (subst (λ (s : Sent). IsRequest x.base.own s.tpdu) (sym (first_is sent (request x.base r.octets) rest [] forth_is)) refl) numbered)
      by (Rejected x refusal calling called asks forth_is back_is to is) = none_first sent rest forth_is
      by (Waiting x y since calling called asks indicated requests back_is) = absurd (request_plain x.base.own sent.tpdu requests.1 numbered)
      by (Late x y when since calling called stage unagreed indicated before forth_is back_is) = none_first sent rest forth_is
      by (Refused x y first others calling called asks frozen held unagreed requests back_is refusals) = absurd (request_plain x.base.own sent.tpdu requests.1 numbered)
      by (Answered x y w calling called asks stage confirming forth_is) = none_first sent rest forth_is
      by (Paired p calling called paired) = in_pair p called paired paired.stands
      by (Leaving x y calling called parting held_x held_y) =
          (y, called, record { destination = numbered_for y x.base.own sent.tpdu parting.next.into_are.0.kind numbered; format = parting.next.into_are.0.formatted numbered })
      by (Over calling called forth_is back_is) = none_first sent rest forth_is

  pub back_formatted : (forth : List Sent) → IsAssociation timers own now a forth (sent ∷ rest) → has_number (kind_for sent.tpdu) ≡ true → (z : End) × (a.calling ≡ Some z) × IsToEnd z sent
  back_formatted forth i numbered = by i.phase
    where
      plain_confirm : (b : _) (o : Options) (octets : List ℕ) → sent ≡ confirm b o octets → ⊥
      plain_confirm b o octets is = let n : has_number (kind_for (confirm b o octets).tpdu) ≡ true = subst (λ (s : Sent). has_number (kind_for s.tpdu) ≡ true) is numbered in cc n

      in_pair : (p : Pair) → a.calling ≡ Some p.calling → IsPaired now p forth (sent ∷ rest) → Stands p → (z : End) × (a.calling ≡ Some z) × IsToEnd z sent
      in_pair p calling paired (Left left) = absurd (paired.stays left)
      in_pair p calling paired (Confirming r w mine theirs new c) =
          absurd (plain_confirm p.called.base c.options c.octets (first_is sent (confirm p.called.base c.options c.octets) rest [] (sym paired.back_is ∙ c.back_is)))
      in_pair p calling paired (First o w mine theirs f) = none_first sent rest (sym paired.back_is ∙ f.back_is)
      in_pair p calling paired (Both o q mine theirs both) = (p.calling, calling, back_format _ _ p.calling _ _ sent rest p.forth p.back _ _ both paired.back_is refl)

      by : Phase timers (own a.from.system) (own a.to) now a forth (sent ∷ rest) → (z : End) × (a.calling ≡ Some z) × IsToEnd z sent
      by (Asking x r calling called asks stage forth_is back_is) = none_first sent rest back_is
      by (Rejected x refusal calling called asks forth_is back_is to is) =
          absurd (refusal_plain x.base.own sent.tpdu (subst (λ (s : Sent). IsRefusal x.base.own s.tpdu) (sym (first_is sent refusal rest [] back_is)) is) numbered)
      by (Waiting x y since calling called asks indicated requests back_is) = none_first sent rest back_is
      by (Late x y when since calling called stage unagreed indicated before forth_is back_is) = none_first sent rest back_is
      by (Refused x y first others calling called asks frozen held unagreed requests back_is refusals) = absurd (refusal_plain x.base.own sent.tpdu refusals.1 numbered)
      by (Answered x y w calling called asks stage confirming forth_is) =
          absurd (plain_confirm y.base confirming.options confirming.octets (first_is sent (confirm y.base confirming.options confirming.octets) rest [] confirming.back_is))
      by (Paired p calling called paired) = in_pair p calling paired paired.stands
      by (Leaving x y calling called parting held_x held_y) =
          (x, calling, record { destination = numbered_for x y.base.own sent.tpdu parting.one.into_are.0.kind numbered; format = parting.one.into_are.0.formatted numbered })
      by (Over calling called forth_is back_is) = none_first sent rest back_is

-- ---- where nothing waits, and the called end's user has not answered

-- the called end knows what the CR of the calling one proposed
abbrev pub Fits : End → End → Type 0
Fits z w = (w.base.proposed ≡ z.base.proposed) × (w.base.credit ≡ z.base.timers.credit)

abbrev pub MayAnswer : StateData → Type 0
MayAnswer stage = HasLeft stage ⊎ ((r : InCrWait) × (stage ≡ CrWait r))

asking_answers : (stage : StateData) → IsAsking stage → MayAnswer stage
asking_answers (CrWait r) a = inr (r, refl)
asking_answers (WaitBeforeClose w) a = inl tt
asking_answers other a = absurd a

frozen_not : (since : ℕ) (stage : StateData) → stage ≡ UserWait since → IsFrozen stage → ⊥
frozen_not since (Frozen when) e f = cc e
frozen_not since other e f = f

pub no_user_wait : (p : Pair) (since : ℕ) → Stands p → (HasLeft p.calling.stage ⊎ HasLeft p.called.stage → ⊥) → p.called.stage ≡ UserWait since → ⊥
no_user_wait p since (Left left) stay is = stay left
no_user_wait p since (Confirming r w mine theirs new c) stay is = cc (theirs, is)
no_user_wait p since (First o w mine theirs f) stay is = cc (theirs, is)
no_user_wait p since (Both o q mine theirs both) stay is = cc (theirs, is)

parting_not : (since own other : ℕ) (mine theirs : StateData) (into out : List Sent) → mine ≡ UserWait since → WillFreeze own other mine theirs into out → ⊥
parting_not since own other mine theirs into out is f = subst (λ (s : StateData). WillFreeze own other s theirs into out) is f

module _ (timers : Timers) (own : ℕ → List ℕ) (now : ℕ) (a : Association) (forth back : List Sent) (x y : End) (since : ℕ) (is_x : a.calling ≡ Some x) (is_y : a.called ≡ Some y) (stage : y.stage ≡ UserWait since)
    (i : IsAssociation timers own now a forth back) where
  same_stage : (z : End) → a.calling ≡ Some z → MayAnswer z.stage → MayAnswer x.stage
  same_stage z is m = subst (λ (w : End). MayAnswer w.stage) (same_some z x (sym is ∙ is_x)) m

  called_stage : (z : End) → a.called ≡ Some z → z.stage ≡ UserWait since
  called_stage z is = ap (λ (w : End). w.stage) (same_some z y (sym is ∙ is_y)) ∙ stage

  pub may_answer : MayAnswer x.stage
  may_answer = by i.phase
    where
      by : Phase timers (own a.from.system) (own a.to) now a forth back → MayAnswer x.stage
      by (Asking z r calling called asks st forth_is back_is) = same_stage z calling (asking_answers z.stage asks.stage)
      by (Rejected z refusal calling called asks forth_is back_is to is) = same_stage z calling (asking_answers z.stage asks.stage)
      by (Waiting z w s calling called asks indicated requests back_is) = same_stage z calling (asking_answers z.stage asks.stage)
      by (Late z w when s calling called st unagreed indicated before forth_is back_is) = same_stage z calling (inl (subst HasLeft (sym st) tt))
      by (Refused z w first others calling called asks frozen held unagreed requests back_is refusals) = same_stage z calling (asking_answers z.stage asks.stage)
      by (Answered z w v calling called asks st confirming forth_is) = same_stage z calling (asking_answers z.stage asks.stage)
      by (Paired p calling called paired) = absurd (no_user_wait p since paired.stands paired.stays (called_stage p.called called))
      by (Leaving z w calling called parting held_x held_y) = absurd (parting_not since w.base.own z.base.own w.stage z.stage forth back (called_stage w called) parting.next.freezes)
      by (Over calling called forth_is back_is) = absurd (frozen_not since y.stage stage (frozen_called a.called y is_y called))

  -- an accept of the called end's user
  pub may_accept : (r : InCrWait) (asked : Options) → x.stage ≡ CrWait r → IsTimed timers → IsSized asked
      → Accepts (record { clock = now; calling = x; called = y; forth = []; back = []; calling_gave = []; called_gave = []; calling_showed = []; called_showed = []; calling_told = []; called_told = [] }) asked
  may_accept r asked waits timed size = by i.phase
    where
      made : (y.base.proposed ≡ x.base.proposed) → (y.base.credit ≡ x.base.timers.credit)
          → Accepts (record { clock = now; calling = x; called = y; forth = []; back = []; calling_gave = []; called_gave = []; calling_showed = []; called_showed = []; calling_told = []; called_told = [] }) asked
      made proposed credit =
          let c = i.caller x is_x in
          let d = i.called y is_y in
          let low : x.base.timers.credit ≤ 15 = subst (λ (t : Timers). t.credit ≤ 15) (sym c.timers_are) timed.credit in
          let low_there : y.base.timers.credit ≤ 15 = subst (λ (t : Timers). t.credit ≤ 15) (sym d.timers_are) timed.credit in
          record {
            idle = record { forth = refl; back = refl };
            request = r;
            calling = waits;
            since = since;
            called = stage;
            proposed = proposed;
            named = d.partner ∙ sym c.own_is;
            known = credit;
            low = low;
            low_there = low_there;
            size = subst (λ (p : Proposed). IsProposal p) (sym (proposed ∙ c.proposed)) (proposal_by x.base.proposed.options c.size);
            size_asked = size;
            new = record { calling_gave = refl; called_gave = refl; calling_showed = refl; called_showed = refl };
          }

      by : Phase timers (own a.from.system) (own a.to) now a forth back
          → Accepts (record { clock = now; calling = x; called = y; forth = []; back = []; calling_gave = []; called_gave = []; calling_showed = []; called_showed = []; calling_told = []; called_told = [] }) asked
      by (Waiting z w s calling called asks indicated requests back_is) =
          let f = subst (λ (v : End). Fits v y) (same_some z x (sym calling ∙ is_x)) (subst (λ (v : End). Fits z v) (same_some w y (sym called ∙ is_y)) (indicated.proposed, indicated.credit)) in
          made f.0 f.1
      by (Late z w when s calling called st unagreed indicated before forth_is back_is) =
          let f = subst (λ (v : End). Fits v y) (same_some z x (sym calling ∙ is_x)) (subst (λ (v : End). Fits z v) (same_some w y (sym called ∙ is_y)) (indicated.proposed, indicated.credit)) in
          made f.0 f.1
      by (Asking z q calling called asks st forth_is back_is) = absurd (cc (called, is_y))
      by (Rejected z refusal calling called asks forth_is back_is to is) = absurd (cc (called, is_y))
      by (Refused z w first others calling called asks frozen held unagreed requests back_is refusals) = absurd (frozen_not since w.stage (called_stage w called) frozen)
      by (Answered z w v calling called asks st confirming forth_is) = absurd (cc (confirming.stage, called_stage w called))
      by (Paired p calling called paired) = absurd (no_user_wait p since paired.stands paired.stays (called_stage p.called called))
      by (Leaving z w calling called parting held_x held_y) = absurd (parting_not since w.base.own z.base.own w.stage z.stage forth back (called_stage w called) parting.next.freezes)
      by (Over calling called forth_is back_is) = absurd (frozen_not since y.stage stage (frozen_called a.called y is_y called))

-- ---- the laws

module _ (timers : Timers) (own : ℕ → List ℕ) where
  first_of : (now : ℕ) (entities : List Placed) (all : List Association) (k : ℕ) (by : Bool) (sent : Sent) (rest : List Posted) (a : Association)
      → Standing timers own now entities all (record { of = k; by = by; sent = sent } ∷ rest) → slice_get all k ≡ Some a → sent.to ≡ own (system_of a (not by))
  first_of now entities all k true sent rest a st is =
      forth_to timers own now a sent (waiting k true rest) (waiting k false (record { of = k; by = true; sent = sent } ∷ rest))
      (subst (λ (l : List Sent). IsAssociation timers own now a l (waiting k false (record { of = k; by = true; sent = sent } ∷ rest))) (waiting_first (record { of = k; by = true; sent = sent }) rest) (st.each k a is))
  first_of now entities all k false sent rest a st is =
      back_to timers own now a sent (waiting k false rest) (waiting k true (record { of = k; by = false; sent = sent } ∷ rest))
      (subst (IsAssociation timers own now a (waiting k true (record { of = k; by = false; sent = sent } ∷ rest))) (waiting_first (record { of = k; by = false; sent = sent }) rest) (st.each k a is))

  pub addressed : Addressed timers own
  addressed now entities all posted rest a st is = first_of now entities all posted.of posted.by posted.sent rest a st is

  format_of : (now : ℕ) (entities : List Placed) (all : List Association) (k : ℕ) (by : Bool) (sent : Sent) (rest : List Posted) (e : Entity) (a : Association)
      → Standing timers own now entities all (record { of = k; by = by; sent = sent } ∷ rest) → slice_get all k ≡ Some a → entity_at entities (system_of a (not by)) ≡ Some e
      → has_number (kind_for sent.tpdu) ≡ true → IsFormatted timers own e (record { of = k; by = by; sent = sent })
  format_of now entities all k true sent rest e a st is here numbered =
      let f = forth_formatted timers own now a sent (waiting k true rest) (waiting k false (record { of = k; by = true; sent = sent } ∷ rest))
      (subst (λ (l : List Sent). IsAssociation timers own now a l (waiting k false (record { of = k; by = true; sent = sent } ∷ rest))) (waiting_first (record { of = k; by = true; sent = sent }) rest) (st.each k a is)) numbered in
      record { reference = f.0.base.own; end = f.0; destination = f.2.destination; stands = place_of timers own now entities all _ st k false e a is here f.0 f.1; format = f.2.format }
  format_of now entities all k false sent rest e a st is here numbered =
      let f = back_formatted timers own now a sent (waiting k false rest) (waiting k true (record { of = k; by = false; sent = sent } ∷ rest))
      (subst (IsAssociation timers own now a (waiting k true (record { of = k; by = false; sent = sent } ∷ rest))) (waiting_first (record { of = k; by = false; sent = sent }) rest) (st.each k a is)) numbered in
      record { reference = f.0.base.own; end = f.0; destination = f.2.destination; stands = place_of timers own now entities all _ st k true e a is here f.0 f.1; format = f.2.format }

  pub formatted : Formatted timers own
  formatted now entities all posted rest e a st is here numbered = format_of now entities all posted.of posted.by posted.sent rest e a st is here numbered

  pub answerable : Answerable timers own
  answerable now entities all k a x y since st is is_x is_y stage = may_answer timers own now a [] [] x y since is_x is_y stage (st.each k a is)

  pub accepts : MayAccept timers own
  accepts now entities all k a x y since r asked st proper is is_x is_y stage waits size = may_accept timers own now a [] [] x y since is_x is_y stage (st.each k a is) r asked waits st.systems.timed size
