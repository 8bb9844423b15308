-- Where one end has left, the other will freeze: what waits first is handed over, and either the DR or DC that an end needs still waits, or it was this one and the
-- end is frozen; a DR that is taken, or that meets a frozen end, is answered by a DC.
use Rattle.std.proofs.Common.{◌≡◌, ◌⊎◌, ℕ, ◌<◌, true, List, [], ◌∷◌, ◌++◌, refl, sym, ◌∙◌, inl, inr, arith}
use Rattle.tpdu.specs.declared.tpdu.Tpdu.{Tpdu}
use Rattle.tpdu.specs.declared.tpdu.Tpdu.TheVariants.{Cr, Cc, Dr, Dc, Dt, Ed, Ak, Ea, Er}
use Rattle.tp4_flow.specs.declared.rules.FlowRules.{FlowRules}
use Rattle.tp4_flow.specs.declared.step.Sent.{Sent}
use Rattle.tp4_conn.specs.declared.end_record.EndRecord.{EndRecord}
use Rattle.tp4_conn.specs.declared.states.StateData.{StateData}
use Rattle.tp4_conn.specs.declared.states.StateData.TheVariants.{AkWait, Opened, Closing, Frozen}
use Rattle.tp4_conn.specs.End.{End, agreed_sum, release, send}
use Rattle.tp4_conn.specs.Matching.{fits, sum_agreed}
use Rattle.tp4_entity.specs.Association.{answer, refusal}
use Rattle.law_tp4_pair.specs.Waiting.{AreData, IsDataFor}
use Rattle.law_tp4_associations.specs.Phase.{AllCome, AreParting, Comes, Has, HearsData, IsConfirm, IsDone, IsFrozen, IsReleaseOf, MayCome, SendsFor, WillFreeze, Writes}

-- ---- lists

pub has_left : (P : Tpdu → Type 0) (a b : List Sent) → Has P a → Has P (a ++ b)
has_left P [] b h = absurd h
has_left P (sent ∷ a) b (inl h) = inl h
has_left P (sent ∷ a) b (inr h) = inr (has_left P a b h)

pub has_right : (P : Tpdu → Type 0) (a b : List Sent) → Has P b → Has P (a ++ b)
has_right P [] b h = h
has_right P (sent ∷ a) b h = inr (has_right P a b h)

pub has_rest : (P : Tpdu → Type 0) (sent : Sent) (rest : List Sent) → (P sent.tpdu → ⊥) → Has P (sent ∷ rest) → Has P rest
has_rest P sent rest never (inl h) = absurd (never h)
has_rest P sent rest never (inr h) = h

pub come_then : (end : End) (other : ℕ) (address : List ℕ) (a b : List Sent) → AllCome end other address a → AllCome end other address b → AllCome end other address (a ++ b)
come_then end other address [] b p q = q
come_then end other address (sent ∷ a) b p q = (p.0, come_then end other address a b p.1 q)

-- ---- kinds

pub other_release : (n m : ℕ) (tpdu : Tpdu) → 0 < n → IsReleaseOf 0 tpdu → IsReleaseOf n tpdu → ⊥
other_release n m (Dr destination source reason info text) low zero_is is = absurd (omega arith)
other_release n m other low zero_is is = zero_is

-- the same for an end that went on
may_come_on : (end next : End) (other : ℕ) (tpdu : Tpdu) → next.base.own ≡ end.base.own → next.base.partner ≡ end.base.partner → next.base.is_called ≡ end.base.is_called
    → (HearsData end.stage → HearsData next.stage) → (IsFrozen end.stage → IsFrozen next.stage) → MayCome end other tpdu → MayCome next other tpdu
may_come_on end next other (Dr destination source reason info text) own partner called hears frozen m = (m.0 ∙ sym own, m.1)
may_come_on end next other (Dc destination source) own partner called hears frozen m = (m.0 ∙ sym own, m.1)
may_come_on end next other (Cc credit destination source width calling called_one size preferred extra version classes ack_time text) own partner called hears frozen m = (m.0 ∙ sym own, m.1, frozen m.2)
may_come_on end next other (Cr credit source width calling called_one size preferred extra version classes ack_time text) own partner called hears frozen m = (m.0, partner ∙ m.1, called ∙ m.2, frozen m.3)
may_come_on end next other (Er destination cause rejected) own partner called hears frozen m = m
may_come_on end next other another own partner called hears frozen m = (m.0 ∙ sym own, hears m.1)

module _ (b : EndRecord) (other : ℕ) (address : List ℕ) where
  -- the end at another tick, in another state
  abbrev on : ℕ → StateData → End
  on clock stage = record { base = record b { clock = clock }; stage = stage }

  pub come_on : (old new : StateData) (clock : ℕ) (l : List Sent) → (HearsData old → HearsData new) → (IsFrozen old → IsFrozen new)
      → AllCome (record { base = b; stage = old }) other address l → AllCome (on clock new) other address l
  come_on old new clock [] hears frozen a = tt
  come_on old new clock (sent ∷ l) hears frozen a = (
    record {
      kind = may_come_on (record { base = b; stage = old }) (on clock new) other sent.tpdu refl refl refl hears frozen a.0.kind;
      to = a.0.to;
      summed = a.0.summed;
      formatted = a.0.formatted;
    },
    come_on old new clock l hears frozen a.1,
  )

-- data that an end writes come to the other one
pub data_come : (w : End) (own : ℕ) (there : List ℕ) (rules : FlowRules) (l : List Sent) → SendsFor w there rules → HearsData w.stage → AreData rules l → AllCome w own there l
data_come w own there rules [] fits hears d = tt
data_come w own there rules (sent ∷ l) fits hears d = (
  record {
    kind = kind sent.tpdu d.0.kind;
    to = d.0.to ∙ fits.to;
    summed = λ agreed. d.0.sum ∙ fits.sum agreed;
    formatted = λ numbered. d.0.format ∙ fits.format;
  },
  data_come w own there rules l fits hears d.1,
)
  where
    kind : (tpdu : Tpdu) → IsDataFor rules.partner tpdu → MayCome w own tpdu
    kind (Dt destination last number text) is = (is ∙ fits.partner, hears)
    kind (Ed destination last number text) is = (is ∙ fits.partner, hears)
    kind (Ak destination number credit subsequence confirmation) is = (is ∙ fits.partner, hears)
    kind (Ea destination number) is = (is ∙ fits.partner, hears)
    kind other is = absurd is

-- what it has the other end know
pub release_comes : (z w : End) (there : List ℕ) (reason : ℕ) (octets : List ℕ) → z.base.partner ≡ w.base.own → z.base.to ≡ there → (sum_agreed w.base.agreed ≡ true → agreed_sum z.base.agreed ≡ true)
    → Comes w z.base.own there (release z.base reason octets)
release_comes z w there reason octets partner to sum = record { kind = (partner, inl refl); to = to; summed = sum; formatted = λ e. absurd (cc e) }

pub done_comes : (z w : End) (there : List ℕ) (source : ℕ) → source ≡ w.base.own → z.base.to ≡ there → (sum_agreed w.base.agreed ≡ true → agreed_sum z.base.agreed ≡ true)
    → Comes w z.base.own there (send z.base (Dc source z.base.own))
done_comes z w there source is to sum = record { kind = (is, refl); to = to; summed = sum; formatted = λ e. absurd (cc e) }

-- answers of the entity
pub answered_done : (w : End) (own : ℕ) (there : List ℕ) (source destination : ℕ) → source ≡ w.base.own → destination ≡ own → Comes w own there (answer there (Dc source destination))
answered_done w own there source destination is mine = record { kind = (is, mine); to = refl; summed = λ e. refl; formatted = λ e. absurd (cc e) }

pub refused_comes : (w : End) (own : ℕ) (there : List ℕ) (source reason : ℕ) → source ≡ w.base.own → Comes w own there (refusal there source reason)
refused_comes w own there source reason is = record { kind = (is, inr refl); to = refl; summed = λ e. refl; formatted = λ e. absurd (cc e) }

-- ---- an end takes what waits first, or leaves it to its entity

-- the two after the first that waits was handed to an end: at another tick, in another state, with more that waits for the other one
module _ (b : EndRecord) (stage : StateData) (w : End) (here there : List ℕ) (sent : Sent) (rest out : List Sent) (p : AreParting (record { base = b; stage = stage }) w here there (sent ∷ rest) out) where
  pub rebuilt : (clock : ℕ) (new : StateData) (more : List Sent) → (HearsData stage → HearsData new) → (IsFrozen stage → IsFrozen new) → AllCome w b.own there more → Writes new w there
      → WillFreeze b.own w.base.own new w.stage rest (out ++ more) → WillFreeze w.base.own b.own w.stage new (out ++ more) rest
      → AreParting (record { base = record b { clock = clock }; stage = new }) w here there rest (out ++ more)
  rebuilt clock new more hears frozen come writes one next = record {
    one = record {
      into_are = come_on b w.base.own here stage new clock rest hears frozen p.one.into_are.1;
      knows = record { partner = known p.one.knows.partner; to = p.one.knows.to; sum = p.one.knows.sum; writes = writes };
      freezes = one;
    };
    next = record {
      into_are = come_then w b.own there out more p.next.into_are come;
      knows = record { partner = p.next.knows.partner; to = p.next.knows.to; sum = p.next.knows.sum; writes = written w.stage p.next.knows.writes };
      freezes = next;
    };
  }
    where
      known : IsFrozen stage ⊎ (b.partner ≡ w.base.own) → IsFrozen new ⊎ (b.partner ≡ w.base.own)
      known (inl is) = inl (frozen is)
      known (inr is) = inr is

      written : (s : StateData) → Writes s (record { base = b; stage = stage }) here → Writes s (record { base = record b { clock = clock }; stage = new }) here
      written (Opened o) a = record { rules = a.rules; sending = a.sending; receiving = a.receiving; fits = record { to = a.fits.to; partner = a.fits.partner; format = a.fits.format; sum = a.fits.sum } }
      written other a = tt

-- ---- what is left of the reasons to freeze

module _ (own other : ℕ) (low : 0 < other) where
  -- the end is frozen by the DR, and answers it; or by one with source 0
  pub open_freezes : (o : _) (v : StateData) (when : ℕ) (into out more rest : List Sent) → WillFreeze other own v (Opened o) out into → Has IsDone more → WillFreeze other own v (Frozen when) (out ++ more) rest
  open_freezes o (Closing c) when into out more rest f done = inr (inl (has_right IsDone out more done))
  open_freezes o (Frozen t) when into out more rest f done = tt
  open_freezes o v when into out more rest f done = absurd f

  pub waiting_freezes : (a : _) (v : StateData) (when : ℕ) (into out more rest : List Sent) → WillFreeze other own v (AkWait a) out into → Has IsDone more → WillFreeze other own v (Frozen when) (out ++ more) rest
  waiting_freezes a (Closing c) when into out more rest f done = inr (inl (has_right IsDone out more done))
  waiting_freezes a (Frozen t) when into out more rest f done = tt
  waiting_freezes a v when into out more rest f done = absurd f

  pub waiting_refused : (a : _) (v : StateData) (when : ℕ) (sent : Sent) (out more rest : List Sent) → IsReleaseOf 0 sent.tpdu → WillFreeze own other (AkWait a) v (sent ∷ rest) out → WillFreeze other own v (AkWait a) out (sent ∷ rest)
      → WillFreeze other own v (Frozen when) (out ++ more) rest
  waiting_refused a (Closing c) when sent out more rest none one f = inr (inr (has_rest (IsReleaseOf other) sent rest (other_release other own sent.tpdu low none) one))
  waiting_refused a (Frozen t) when sent out more rest none one f = tt
  waiting_refused a v when sent out more rest none one f = absurd f

  pub closing_freezes : (c : _) (v : StateData) (when : ℕ) (into out rest : List Sent) → WillFreeze other own v (Closing c) out into → WillFreeze other own v (Frozen when) (out ++ []) rest
  closing_freezes c (Closing d) when into out rest f = inl (has_left (IsReleaseOf own) out [] f)
  closing_freezes c (Opened o) when into out rest f = has_left (IsReleaseOf own) out [] f
  closing_freezes c (AkWait a) when into out rest f = inl (has_left (IsReleaseOf own) out [] f)
  closing_freezes c (Frozen t) when into out rest f = tt
  closing_freezes c v when into out rest f = absurd f

  -- the end goes on: neither a DR of the other one nor its DC came
  pub open_waits : (o q : _) (v : StateData) (sent : Sent) (out more rest : List Sent) → (IsReleaseOf other sent.tpdu → ⊥) → WillFreeze own other (Opened o) v (sent ∷ rest) out → WillFreeze own other (Opened q) v rest (out ++ more)
  open_waits o q (Closing c) sent out more rest never f = has_rest (IsReleaseOf other) sent rest never f
  open_waits o q (Frozen t) sent out more rest never f = has_rest (IsReleaseOf other) sent rest never f
  open_waits o q v sent out more rest never f = absurd f

  pub open_waits_back : (o q : _) (v : StateData) (into out more rest : List Sent) → WillFreeze other own v (Opened o) out into → WillFreeze other own v (Opened q) (out ++ more) rest
  open_waits_back o q (Closing c) into out more rest f = tt
  open_waits_back o q (Frozen t) into out more rest f = tt
  open_waits_back o q v into out more rest f = absurd f

  pub open_closes : (o c : _) (v : StateData) (sent : Sent) (out more rest : List Sent) → (IsReleaseOf other sent.tpdu → ⊥) → WillFreeze own other (Opened o) v (sent ∷ rest) out → WillFreeze own other (Closing c) v rest (out ++ more)
  open_closes o c (Closing d) sent out more rest never f = has_rest (IsReleaseOf other) sent rest never f
  open_closes o c (Frozen t) sent out more rest never f = inl (has_rest (IsReleaseOf other) sent rest never f)
  open_closes o c v sent out more rest never f = absurd f

  pub open_closes_back : (o c : _) (v : StateData) (into out more rest : List Sent) → Has (IsReleaseOf own) more → WillFreeze other own v (Opened o) out into → WillFreeze other own v (Closing c) (out ++ more) rest
  open_closes_back o c (Closing d) into out more rest dr f = has_right (IsReleaseOf own) out more dr
  open_closes_back o c (Frozen t) into out more rest dr f = tt
  open_closes_back o c v into out more rest dr f = absurd f

  pub waiting_waits : (a d : _) (v : StateData) (sent : Sent) (out rest : List Sent) → (IsReleaseOf other sent.tpdu → ⊥) → (IsReleaseOf 0 sent.tpdu → ⊥) → WillFreeze own other (AkWait a) v (sent ∷ rest) out
      → WillFreeze own other (AkWait d) v rest (out ++ [])
  waiting_waits a d (Closing c) sent out rest never none f = has_rest (IsReleaseOf other) sent rest never f
  waiting_waits a d (Frozen t) sent out rest never none (inl f) = inl (has_rest (IsReleaseOf other) sent rest never f)
  waiting_waits a d (Frozen t) sent out rest never none (inr (inl f)) = inr (inl (has_rest (IsReleaseOf 0) sent rest none f))
  waiting_waits a d (Frozen t) sent out rest never none (inr (inr f)) = inr (inr (has_left IsConfirm out [] f))
  waiting_waits a d v sent out rest never none f = absurd f

  pub waiting_waits_back : (a d : _) (v : StateData) (into out rest : List Sent) → WillFreeze other own v (AkWait a) out into → WillFreeze other own v (AkWait d) (out ++ []) rest
  waiting_waits_back a d (Closing c) into out rest f = tt
  waiting_waits_back a d (Frozen t) into out rest f = tt
  waiting_waits_back a d v into out rest f = absurd f

  pub closing_waits : (c d : _) (v : StateData) (sent : Sent) (out rest : List Sent) → (IsReleaseOf other sent.tpdu → ⊥) → (IsDone sent.tpdu → ⊥) → WillFreeze own other (Closing c) v (sent ∷ rest) out
      → WillFreeze own other (Closing d) v rest (out ++ [])
  closing_waits c d (Closing e) sent out rest never done f = has_rest (IsReleaseOf other) sent rest never f
  closing_waits c d (Frozen t) sent out rest never done (inl f) = inl (has_rest (IsReleaseOf other) sent rest never f)
  closing_waits c d (Frozen t) sent out rest never done (inr (inl f)) = inr (inl (has_rest IsDone sent rest done f))
  closing_waits c d (Frozen t) sent out rest never done (inr (inr f)) = inr (inr (has_left (IsReleaseOf own) out [] f))
  closing_waits c d (Opened o) sent out rest never done f = tt
  closing_waits c d (AkWait a) sent out rest never done f = tt
  closing_waits c d v sent out rest never done f = absurd f

  pub closing_waits_back : (c d : _) (v : StateData) (into out rest : List Sent) → WillFreeze other own v (Closing c) out into → WillFreeze other own v (Closing d) (out ++ []) rest
  closing_waits_back c d (Closing e) into out rest f = has_left (IsReleaseOf own) out [] f
  closing_waits_back c d (Frozen t) into out rest f = tt
  closing_waits_back c d (Opened o) into out rest f = has_left (IsReleaseOf own) out [] f
  closing_waits_back c d (AkWait a) into out rest f = has_left (IsReleaseOf own) out [] f
  closing_waits_back c d v into out rest f = absurd f

  -- a frozen end: what its entity answers to a DR and to a CC is what the other end waits for
  pub frozen_answers : (t : ℕ) (v : StateData) (sent : Sent) (out more rest : List Sent) → (IsReleaseOf other sent.tpdu → Has IsDone more) → (IsConfirm sent.tpdu → Has (IsReleaseOf 0) more)
      → WillFreeze other own v (Frozen t) out (sent ∷ rest) → WillFreeze other own v (Frozen t) (out ++ more) rest
  frozen_answers t (Frozen u) sent out more rest dr cc_ f = tt
  frozen_answers t (Opened o) sent out more rest dr cc_ f = has_left (IsReleaseOf own) out more f
  frozen_answers t (AkWait a) sent out more rest dr cc_ (inl f) = inl (has_left (IsReleaseOf own) out more f)
  frozen_answers t (AkWait a) sent out more rest dr cc_ (inr (inl f)) = inr (inl (has_left (IsReleaseOf 0) out more f))
  frozen_answers t (AkWait a) sent out more rest dr cc_ (inr (inr (inl f))) = inr (inl (has_right (IsReleaseOf 0) out more (cc_ f)))
  frozen_answers t (AkWait a) sent out more rest dr cc_ (inr (inr (inr f))) = inr (inr f)
  frozen_answers t (Closing c) sent out more rest dr cc_ (inl f) = inl (has_left (IsReleaseOf own) out more f)
  frozen_answers t (Closing c) sent out more rest dr cc_ (inr (inl f)) = inr (inl (has_left IsDone out more f))
  frozen_answers t (Closing c) sent out more rest dr cc_ (inr (inr (inl f))) = inr (inl (has_right IsDone out more (dr f)))
  frozen_answers t (Closing c) sent out more rest dr cc_ (inr (inr (inr f))) = inr (inr f)
  frozen_answers t v sent out more rest dr cc_ f = absurd f
