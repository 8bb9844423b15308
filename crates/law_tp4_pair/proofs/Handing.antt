-- A TPDU that waits first is handed to an Opened end: the row of its kind leaves both as they stand.
use Rattle.std.proofs.Common.{◌≡◌, ℕ, Bool, true, false, ◌&&◌, not, if◌then◌else◌, List, [], ◌∷◌, ◌++◌, Option, Some, refl, sym, ◌∙◌, ap, subst, append-nil, inl, inr}
use Rattle.tpdu.specs.declared.tpdu.Format.{Format}
use Rattle.tpdu.specs.declared.tpdu.Tpdu.{Tpdu}
use Rattle.tpdu.specs.declared.tpdu.Tpdu.TheVariants.{Dt, Ed, Ak, Ea}
use Rattle.tp4_flow.specs.ReceivingHalf.{Received, dt_arrival, taken_dt, taken_ed}
use Rattle.tpdu.specs.declared.service.Options.{Options}
use Rattle.tp4_flow.specs.declared.step.Sent.{Sent}
use Rattle.tp4_number.specs.declared.got.Got.{Got}
use Rattle.tp4_number.specs.declared.got.Got.TheVariants.{Kept, Old, Outside, TooLarge}
use Rattle.tp4_number.specs.declared.piece.Piece.{Piece}
use Rattle.tp4_number.specs.Number.{whole}
use Rattle.tp4_sending.specs.SendingHalf.{Sendings, at, acknowledged, urgent_done}
use Rattle.tp4_conn.specs.declared.end_record.EndRecord.{EndRecord}
use Rattle.tp4_conn.specs.declared.halves.Halves.{Halves}
use Rattle.tp4_conn.specs.declared.states.InOpened.{InOpened}
use Rattle.tp4_conn.specs.declared.states.StateData.TheVariants.{Opened}
use Rattle.tp4_conn.specs.Matching.{sum_agreed}
use Rattle.tp4_conn.specs.Opened.{hearing, sending, receiving, acking, dt_as, is_expedited, opened_tpdu, protocol_error}
use Rattle.tp4_conn.specs.Table.{at as now_at, takes, untaken, on_tpdu}
use Rattle.script_journal.specs.Lawful.{Marked}
use Rattle.law_tp4_history.specs.Lines.{shown_in}
use Rattle.law_tp4_pair.specs.Pair.{Account}
use Rattle.law_tp4_pair.specs.Carrying.{pieces_in, units_in}
use Rattle.law_tp4_pair.proofs.Carried.{units_count}
use Rattle.law_tp4_pair.specs.Waiting.{View, dts_in, eds_in, aks_in, eas_in}
use Rattle.law_tp4_pair.specs.Standing.{AreBoth, Party, party}
use Rattle.law_tp4_pair.proofs.Acting.{sending_on, receiving_on, Continues}
use Rattle.law_tp4_pair.proofs.Asking.{ed_taken, ea_taken}
use Rattle.law_tp4_pair.proofs.Going.{calm_at}
use Rattle.law_tp4_pair.proofs.Taking.{dt_taken}
use Rattle.law_tp4_pair.proofs.Hearing.{ak_taken, from_at}

-- a TPDU with the checksum that is agreed is taken
pub has_sum : (options : Options) (agreed : Option Options) (sum : Bool) → agreed ≡ Some options → sum ≡ options.sum → (sum_agreed agreed && not sum) ≡ false
has_sum options agreed sum a e = ap (λ (o : Option Options). sum_agreed o && not sum) a ∙ ap (λ (b : Bool). options.sum && not b) e ∙ never options.sum
  where
    never : (b : Bool) → (b && not b) ≡ false
    never true = refl
    never false = refl

pub kept_fits : Kept ≡ TooLarge → ⊥
kept_fits e = cc e

pub old_fits : Old ≡ TooLarge → ⊥
old_fits e = cc e

pub outside_fits : Outside ≡ TooLarge → ⊥
outside_fits e = cc e

-- nothing is submitted
adds_nothing : (first second : Party) (h k : Halves) (forth back : List Sent) (u v : Account) → AreBoth first second h k forth back u (record v { gave = v.gave ++ [] }) → AreBoth first second h k forth back u v
adds_nothing first second h k forth back u v b = subst (λ (l : List Marked). AreBoth first second h k forth back u (record v { gave = l })) (append-nil v.gave) b

module _ (first : Party) (h : Halves) (b : EndRecord) (o : InOpened) (to : List ℕ) (format : Format) (sum : Bool) (rest back : List Sent) (u v : Account) where
  abbrev waits : Tpdu → List Sent
  waits tpdu = record { to = to; tpdu = tpdu; format = format; sum = sum } ∷ rest

  -- DT
  dt_goes : (destination : ℕ) (last : Bool) (w : ℕ) (text : List ℕ) → AreBoth first (party b) h o.halves (waits (Dt destination last w text)) back u v
      → ((dt_arrival o.halves.receiving w (record { last = last; octets = text })).got ≡ TooLarge → ⊥)
      → Continues first h (receiving b (acking b o) (taken_dt whole o.halves.receiving w (record { last = last; octets = text }))) rest back u v
  dt_goes destination last w text both fits =
      let piece : Piece = record { last = last; octets = text } in
      let x : Received = taken_dt whole o.halves.receiving w piece in
      let t = dt_taken h.sending o.halves.receiving w (dts_in rest) (eds_in rest) (aks_in back) (eas_in back) piece both.there fits in
      inr (record {
        after = record (acking b o) { halves = record o.halves { receiving = x.half } };
        stage = refl;
        both = receiving_on first (party b) h o.halves (waits (Dt destination last w text)) rest back u v x.half x.events x.tpdus both both.forth_are.1 t.goes_on.rules t.data_are t.dts t.eds_are t.calm both.here
            (t.carried (pieces_in rest) (units_in rest) u.gave u.showed both.carried_there);
      })

  dt_as_goes : (destination : ℕ) (last : Bool) (w : ℕ) (text : List ℕ) (got : Got) → AreBoth first (party b) h o.halves (waits (Dt destination last w text)) back u v
      → (dt_arrival o.halves.receiving w (record { last = last; octets = text })).got ≡ got
      → Continues first h (dt_as got b o (taken_dt whole o.halves.receiving w (record { last = last; octets = text }))) rest back u v
  dt_as_goes destination last w text TooLarge both e = inl tt
  dt_as_goes destination last w text Kept both e = dt_goes destination last w text both (λ large. kept_fits (sym e ∙ large))
  dt_as_goes destination last w text Old both e = dt_goes destination last w text both (λ large. old_fits (sym e ∙ large))
  dt_as_goes destination last w text Outside both e = dt_goes destination last w text both (λ large. outside_fits (sym e ∙ large))

  -- ED
  ed_goes : (destination : ℕ) (last : Bool) (w : ℕ) (text : List ℕ) (expedited : Bool) → AreBoth first (party b) h o.halves (waits (Ed destination last w text)) back u v
      → Continues first h (if expedited then receiving b o (taken_ed whole o.halves.receiving w text) else protocol_error b) rest back u v
  ed_goes destination last w text false both = inl tt
  ed_goes destination last w text true both =
      let x : Received = taken_ed whole o.halves.receiving w text in
      let t = ed_taken h.sending o.halves.receiving (dts_in rest) w (eds_in rest) (aks_in back) (eas_in back) text both.there in
      inr (record {
        after = record o { halves = record o.halves { receiving = x.half } };
        stage = refl;
        both = receiving_on first (party b) h o.halves (waits (Ed destination last w text)) rest back u v x.half x.events x.tpdus both both.forth_are.1 t.rules t.data_are t.dts_are t.eds t.calm both.here
            (t.carried (pieces_in rest) (units_in rest) u.gave u.showed (units_count rest) both.carried_there);
      })

  -- AK
  ak_goes : (destination w credit subsequence : ℕ) (confirmation : Option (List ℕ)) → AreBoth first (party b) h o.halves (waits (Ak destination w credit subsequence confirmation)) back u v
      → Continues first h (sending b o (acknowledged (at b.clock o.halves.sending) w credit subsequence)) rest back u v
  ak_goes destination w credit subsequence confirmation both =
      let x : Sendings = acknowledged (at b.clock o.halves.sending) w credit subsequence in
      let ack : View = record { number = w; credit = credit; subsequence = subsequence } in
      let a = ak_taken (at b.clock o.halves.sending) h.receiving (dts_in back) (eds_in back) (aks_in rest) (eas_in rest) ack
      (calm_at b.clock o.halves.sending h.receiving (dts_in back) (eds_in back) (ack ∷ aks_in rest) (eas_in rest) both.here) in
      inr (record {
        after = record o { halves = record o.halves { sending = x.sender } };
        stage = refl;
        both = adds_nothing first (party b) h (record o.halves { sending = x.sender }) rest (back ++ x.tpdus) (record u { showed = u.showed ++ shown_in x.events }) v
            (sending_on first (party b) h o.halves (waits (Ak destination w credit subsequence confirmation)) rest back u v [] x both both.forth_are.1 both.there both.carried_there (record {})
            (from_at b.clock o.halves.sending [] x h.receiving (dts_in back) (eds_in back) (aks_in rest) (eas_in rest) a));
      })

  -- EA
  ea_goes : (destination w : ℕ) → AreBoth first (party b) h o.halves (waits (Ea destination w)) back u v
      → Continues first h (sending b o (urgent_done (at b.clock o.halves.sending) w)) rest back u v
  ea_goes destination w both =
      let x : Sendings = urgent_done (at b.clock o.halves.sending) w in
      let a = ea_taken (at b.clock o.halves.sending) h.receiving (dts_in back) (eds_in back) (aks_in rest) w (eas_in rest)
      (calm_at b.clock o.halves.sending h.receiving (dts_in back) (eds_in back) (aks_in rest) (w ∷ eas_in rest) both.here) in
      inr (record {
        after = record o { halves = record o.halves { sending = x.sender } };
        stage = refl;
        both = adds_nothing first (party b) h (record o.halves { sending = x.sender }) rest (back ++ x.tpdus) (record u { showed = u.showed ++ shown_in x.events }) v
            (sending_on first (party b) h o.halves (waits (Ea destination w)) rest back u v [] x both both.forth_are.1 both.there both.carried_there (record {})
            (from_at b.clock o.halves.sending [] x h.receiving (dts_in back) (eds_in back) (aks_in rest) (eas_in rest) a));
      })

  pub data_goes : (tpdu : Tpdu) → AreBoth first (party b) h o.halves (waits tpdu) back u v → Continues first h (opened_tpdu whole b o tpdu) rest back u v
  unfolding opened_tpdu
  data_goes (Dt destination last w text) both = dt_as_goes destination last w text (dt_arrival o.halves.receiving w (record { last = last; octets = text })).got both refl
  data_goes (Ed destination last w text) both = ed_goes destination last w text (is_expedited b.agreed) both
  data_goes (Ak destination w credit subsequence confirmation) both = ak_goes destination w credit subsequence confirmation both
  data_goes (Ea destination w) both = ea_goes destination w both
  data_goes other both = absurd both.forth_are.0.kind

-- the row of an Opened end
pub handed : (first : Party) (h : Halves) (b : EndRecord) (o : InOpened) (now : ℕ) (sent : Sent) (rest back : List Sent) (u v : Account) → AreBoth first (party b) h o.halves (sent ∷ rest) back u v
    → Continues first h (takes whole now b (Opened o) sent.tpdu sent.sum) rest back u v
handed first h b o now sent rest back u v both =
    subst (λ (wants : Bool). Continues first h (if wants then untaken b (Opened o) else on_tpdu whole (now_at now b) (Opened o) sent.tpdu) rest back u v)
    (sym (has_sum both.options b.agreed sent.sum both.other.agreed_is (both.forth_are.0.sum ∙ both.one.sum)))
    (data_goes first h (now_at now b) (hearing (now_at now b) o) sent.to sent.format sent.sum rest back u v sent.tpdu both)
