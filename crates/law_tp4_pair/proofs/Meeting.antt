-- What waits first for an end has its reference as destination, and it matches.
use Rattle.std.proofs.Common.{◌≡◌, ℕ, ◌&&◌, Bool, true, if◌then◌else◌, List, [], ◌∷◌, Option, Some, refl, sym, ◌∙◌, ap, subst, ◌⊎◌}
use Rattle.std.specs.Prelude.{nat_eq}
use Rattle.std.specs.Cmp.Lexicographic.{pointwise}
use Rattle.std.proofs.lemmas.Bool.{eq-eqb}
use Rattle.tpdu.specs.declared.tpdu.Tpdu.{Tpdu}
use Rattle.tpdu.specs.declared.tpdu.Tpdu.TheVariants.{Dt, Ed, Ak, Ea}
use Rattle.tp4_flow.specs.ReceivingHalf.{ak}
use Rattle.tp4_flow.specs.declared.step.Sent.{Sent}
use Rattle.tp4_number.specs.Number.{whole}
use Rattle.tp4_conn.specs.declared.end_record.EndRecord.{EndRecord}
use Rattle.tp4_conn.specs.declared.halves.Halves.{Halves}
use Rattle.tp4_conn.specs.declared.states.InOpened.{InOpened}
use Rattle.tp4_conn.specs.declared.states.StateData.{StateData}
use Rattle.tp4_conn.specs.declared.states.StateData.TheVariants.{CrWait, Opened}
use Rattle.tp4_conn.specs.Agreeing.{confirm}
use Rattle.tp4_conn.specs.End.{End, agreed_format}
use Rattle.tp4_conn.specs.Matching.{fits, is_match}
use Rattle.tp4_conn.specs.Table.{Took, stepped}
use Rattle.tp4_entity.specs.Association.{met, met_at, met_by, unmatched}
use Rattle.tp4_entity.specs.Entity.{Entity, end_at, moved}
use Rattle.law_tp4_pair.specs.Meeting.{IsMet}
use Rattle.law_tp4_pair.specs.Pair.{Pair, back_units, forth_units}
use Rattle.law_tp4_pair.specs.Standing.{AreBoth, Both, Confirming, First, HasLeft, Left, Stands, party}
use Rattle.law_tp4_pair.specs.Waiting.{AreData, IsDataFor}
use Rattle.law_tp4_pair.proofs.Acting.{turned}

same_octets : (l : List ℕ) → pointwise nat_eq l l ≡ true
same_octets [] = refl
same_octets (n ∷ l) = λ i. eq-eqb n n refl i && same_octets l i

-- the end stands there, and the TPDU matches it
met_it : (now : ℕ) (e : Entity) (by : End) (tpdu : Tpdu) (sum : Bool) → end_at e by.base.own ≡ Some by → fits by.base by.stage tpdu ≡ true
    → met_at whole now e by.base.to (tpdu, sum) (Some by.base.own) ≡ moved e by.base.own (stepped whole now by (Took tpdu sum))
met_it now e by tpdu sum stands fit =
    let matches : is_match by.base by.stage by.base.to tpdu ≡ true = λ i. same_octets by.base.to i && fit i in
    ap (λ (end : Option End). met_by whole now e by.base.to (tpdu, sum) by.base.own end) stands
    ∙ ap (λ (b : Bool). if b then moved e by.base.own (stepped whole now by (Took tpdu sum)) else unmatched e by.base.to tpdu) matches

-- a DT, an ED, an AK or an EA
data_fits : (b : EndRecord) (o : InOpened) (partner : ℕ) (tpdu : Tpdu) → IsDataFor partner tpdu → fits b (Opened o) tpdu ≡ true
data_fits b o partner (Dt destination last number text) k = refl
data_fits b o partner (Ed destination last number text) k = refl
data_fits b o partner (Ak destination number credit subsequence confirmation) k = refl
data_fits b o partner (Ea destination number) k = refl
data_fits b o partner other k = absurd k

data_met : (now : ℕ) (e : Entity) (by : End) (tpdu : Tpdu) (sum : Bool) → IsDataFor by.base.own tpdu → end_at e by.base.own ≡ Some by → fits by.base by.stage tpdu ≡ true
    → met whole now e by.base.to (tpdu, sum) ≡ moved e by.base.own (stepped whole now by (Took tpdu sum))
data_met now e by (Dt destination last number text) sum k stands fit =
    ap (λ (n : ℕ). met_at whole now e by.base.to (Dt destination last number text, sum) (Some n)) k ∙ met_it now e by (Dt destination last number text) sum stands fit
data_met now e by (Ed destination last number text) sum k stands fit =
    ap (λ (n : ℕ). met_at whole now e by.base.to (Ed destination last number text, sum) (Some n)) k ∙ met_it now e by (Ed destination last number text) sum stands fit
data_met now e by (Ak destination number credit subsequence confirmation) sum k stands fit =
    ap (λ (n : ℕ). met_at whole now e by.base.to (Ak destination number credit subsequence confirmation, sum) (Some n)) k ∙ met_it now e by (Ak destination number credit subsequence confirmation) sum stands fit
data_met now e by (Ea destination number) sum k stands fit =
    ap (λ (n : ℕ). met_at whole now e by.base.to (Ea destination number, sum) (Some n)) k ∙ met_it now e by (Ea destination number) sum stands fit
data_met now e by other sum k stands fit = absurd k

for_partner : (a b : ℕ) (tpdu : Tpdu) → a ≡ b → IsDataFor a tpdu → IsDataFor b tpdu
for_partner a b tpdu e k = subst (λ (n : ℕ). IsDataFor n tpdu) e k

-- between two Opened ends
both_met : (now : ℕ) (by of : End) (h k : Halves) (sent : Sent) (rest back : List Sent) (u v : _) (q : InOpened) → by.stage ≡ Opened q → AreBoth (party of.base) (party by.base) h k (sent ∷ rest) back u v → IsMet now by of sent
both_met now by of h k sent rest back u v q is both =
    let f = both.forth_are.0 in
    let kind : IsDataFor by.base.own sent.tpdu = for_partner both.one_rules.partner by.base.own sent.tpdu (both.one.partner ∙ both.partner) f.kind in
    record {
      to = f.to ∙ both.one.to;
      meets = λ e stands. data_met now e by sent.tpdu sent.sum kind stands (subst (λ (stage : StateData). fits by.base stage sent.tpdu ≡ true) (sym is) (data_fits by.base q by.base.own sent.tpdu kind));
      format = λ o e. f.format ∙ both.one.format ∙ ap agreed_format (sym both.other.agreed_is);
    }

not_open : (o : InOpened) (w : _) → CrWait w ≡ Opened o → ⊥
not_open o w e = cc e

first_is : (x y : Sent) (l m : List Sent) → x ∷ l ≡ y ∷ m → x ≡ y
first_is x y l m e = cc

none_first : (x : Sent) (l : List Sent) → [] ≡ x ∷ l → ⊥
none_first x l e = cc e

-- what waits for the called end
pub forth_met : (p : Pair) (sent : Sent) (rest : List Sent) → (HasLeft p.calling.stage ⊎ HasLeft p.called.stage → ⊥) → Stands p → p.forth ≡ sent ∷ rest → IsMet p.clock p.called p.calling sent
forth_met p sent rest stay (Left left) e = absurd (stay left)
forth_met p sent rest stay (Confirming r w mine theirs new c) e = absurd (none_first sent rest (sym c.forth_is ∙ e))
forth_met p sent rest stay (First o w mine theirs f) e =
    let is : ak o.halves.receiving ≡ sent = first_is (ak o.halves.receiving) sent [] rest (sym f.forth_is ∙ e) in
    let both = f.both p.clock in
    let all : AreData both.one_rules (ak o.halves.receiving ∷ []) = subst (AreData both.one_rules) f.forth_is both.forth_are in
    let kind : IsDataFor p.called.base.own (ak o.halves.receiving).tpdu = for_partner both.one_rules.partner p.called.base.own (ak o.halves.receiving).tpdu (both.one.partner ∙ both.partner) all.0.kind in
    subst (IsMet p.clock p.called p.calling) is (record {
      to = all.0.to ∙ both.one.to;
      meets = λ e stands. data_met p.clock e p.called (ak o.halves.receiving).tpdu (ak o.halves.receiving).sum kind stands
          (subst (λ (stage : StateData). fits p.called.base stage (ak o.halves.receiving).tpdu ≡ true) (sym theirs) refl);
      format = λ q g. all.0.format ∙ both.one.format ∙ ap agreed_format (sym both.other.agreed_is);
    })
forth_met p sent rest stay (Both o q mine theirs both) e =
    both_met p.clock p.called p.calling o.halves q.halves sent rest p.back (forth_units p) (back_units p) q theirs (subst (λ (l : List Sent). AreBoth (party p.calling.base) (party p.called.base) o.halves q.halves l p.back (forth_units p) (back_units p)) e both)

-- what waits for the calling end
pub back_met : (p : Pair) (sent : Sent) (rest : List Sent) → (HasLeft p.calling.stage ⊎ HasLeft p.called.stage → ⊥) → Stands p → p.back ≡ sent ∷ rest → IsMet p.clock p.calling p.called sent
back_met p sent rest stay (Left left) e = absurd (stay left)
back_met p sent rest stay (Confirming r w mine theirs new c) e =
    let is : confirm p.called.base c.options c.octets ≡ sent = first_is (confirm p.called.base c.options c.octets) sent [] rest (sym c.back_is ∙ e) in
    subst (IsMet p.clock p.calling p.called) is (record {
      to = refl;
      meets = λ e stands. ap (λ (n : ℕ). met_at whole p.clock e p.calling.base.to ((confirm p.called.base c.options c.octets).tpdu, (confirm p.called.base c.options c.octets).sum) (Some n)) c.named
          ∙ met_it p.clock e p.calling (confirm p.called.base c.options c.octets).tpdu (confirm p.called.base c.options c.octets).sum stands
          (subst (λ (stage : StateData). fits p.calling.base stage (confirm p.called.base c.options c.octets).tpdu ≡ true) (sym mine) refl);
      format = λ o g. absurd (not_open o r (sym mine ∙ g));
    })
back_met p sent rest stay (First o w mine theirs f) e = absurd (none_first sent rest (sym f.back_is ∙ e))
back_met p sent rest stay (Both o q mine theirs both) e =
    both_met p.clock p.calling p.called q.halves o.halves sent rest p.forth (back_units p) (forth_units p) o mine
    (subst (λ (l : List Sent). AreBoth (party p.called.base) (party p.calling.base) q.halves o.halves l p.forth (back_units p) (forth_units p)) e (turned _ _ _ _ _ _ _ _ both))
