-- What the pieces of the input and its end come to, joined: by the status, what was written is what was asked for.
use Rattle.std.proofs.Common.{◌≡◌, ◌≢◌, ◌⊎◌, ℕ, List, [], ◌∷◌, ◌++◌, take, drop, inl, inr, sym, ◌∙◌, ap, subst, append_assoc, Option, ◌≤◌, ◌<◌, ◌+◌, length, get_or, arith}
use Rattle.std.proofs.lemmas.List.{append-nil, length-append, length-take-le, take-append-drop, drop_more}
use Rattle.osi_base.specs.declared.status.Status.{Status}
use Rattle.osi_base.specs.declared.status.Status.TheVariants.{Done, ReadFault, WriteFault, NoMemory, TooMuch}
use Rattle.osi_base.specs.Ends.{Took, Put, IsAtEnd}
use Rattle.octet_loop.specs.Course.{Course}
use Rattle.octet_loop.specs.Limits.{most_octets, most_read}
use Rattle.octet_loop.specs.Outcome.{Asks, Outcome}
use Rattle.octet_loop.specs.steps.Driving.{Passes, Closes, IsClosed, IsOverWritten}
use Rattle.octet_loop.specs.steps.Taking.{Progress, Takes, Stops, Ends, Overflows, Laws, IsEnd}
use Rattle.octet_loop.specs.Writing.{IsPrefix, IsWritten}
use Rattle.octet_loop.proofs.Closing.{prefix_on, never_done, stop_ends, stop_not_done, end_not_write, never_read, outcome_on, cut_outcome, cut_read, all_read, closes_all, closes_cut, stop_asks, end_asks}
use Rattle.octet_loop.proofs.Written.{took_none, took_on, put_none, put_on}

module _ {T : Type 0} (course : T → Course) (progress : Progress T) (laws : Laws course progress) {K : Type 0} (held : K → Option (List ℕ)) where
  -- memory ran out before anything was written
  pub passes_memory : (octets : List ℕ) (old new : T) (sink : K) → Passes course progress held octets old sink new sink NoMemory
  passes_memory octets old new sink = record {
    written = [];
    put = put_none (held sink);
    comes = λ first read text l within.
        inr ((λ is. absurd (cc)), cut_read (course first) ⊥ read octets text (text ++ []) within (laws.reads first read text old l) ([], append-nil (text ++ []) ∙ append-nil text));
  }

  pub closes_memory : (old : T) (sink : K) → Closes course progress held old sink sink NoMemory
  closes_memory old sink = record {
    written = [];
    put = put_none (held sink);
    comes = λ first read text l within. (
      (λ is. absurd (cc)),
      all_read (course first) (Unit {0}) read (text ++ [])
          (cut_read (course first) (Unit {0}) read [] text (text ++ []) within (laws.reads first read text old l) ([], append-nil (text ++ []) ∙ append-nil text)),
    );
  }

  -- the octets with those read before keep the limit
  in_all : (octets : List ℕ) (old first : T) (read text : List ℕ) → progress.octets old + length octets ≤ most_octets → progress.led first read text old → length (read ++ octets) ≤ most_octets
  in_all octets old first read text room l = omega (arith, laws.counted first read text old l, length-append read octets)

  -- a piece was taken, and what it tells was written
  pub passes_ok : (octets : List ℕ) (old new : T) (out : List ℕ) (before after : K) (status : Status) → progress.octets old + length octets ≤ most_octets
      → Takes progress octets old [] new out → IsWritten held before out Done after status → Passes course progress held octets old before new after status
  passes_ok octets old new out before after status room f w = elim w [
    | inl all ↦ record {
      written = out;
      put = all.1;
      comes = λ first read text l within.
          inl (
            all.0,
            subst (λ (t : List ℕ). progress.led first (read ++ octets) (text ++ t) new) (sym f.appended) (f.goes_on first read text l),
            in_all octets old first read text room l,
          );
    }
    | inr cut ↦ record {
      written = cut.front;
      put = cut.put;
      comes = λ first read text l within.
          inr (
            never_read status cut.cause,
            cut_outcome (course first) ⊥ (read ++ octets) (text ++ cut.front) status cut.cause
                (all_read (course first) ⊥ (read ++ octets) (text ++ cut.front)
                (cut_read (course first) ⊥ (read ++ octets) [] (text ++ f.told) (text ++ cut.front) (in_all octets old first read text room l)
                (laws.reads first (read ++ octets) (text ++ f.told) new (f.goes_on first read text l))
                (prefix_on text cut.front f.told (subst (IsPrefix cut.front) f.appended cut.begins)))),
          );
    }
  ]

  -- the run stopped in a piece, and its text was closed
  passes_closed : (octets : List ℕ) (old new : T) (told : List ℕ) (before after : K) (end status : Status) → IsEnd end
      → ((first : T) (read text : List ℕ) → progress.led first read text old → Asks (course first) ⊥ (read ++ octets) (text ++ told) end)
      → IsWritten held before told end after status → Passes course progress held octets old before new after status
  passes_closed octets old new told before after end status closing asks w = elim w [
    | inl all ↦ record {
      written = told;
      put = all.1;
      comes = λ first read text l within. inr (closes_all (course first) ⊥ (read ++ octets) (text ++ told) end status closing all.0 (asks first read text l));
    }
    | inr cut ↦ record {
      written = cut.front;
      put = cut.put;
      comes = λ first read text l within. inr (closes_cut (course first) ⊥ (read ++ octets) text told cut.front end status cut.cause cut.begins (asks first read text l));
    }
  ]

  pub passes_stop : (octets : List ℕ) (rest : List ℕ) (old new : T) (out : List ℕ) (before after : K) (end status : Status) → progress.octets old + length octets ≤ most_octets
      → Stops course progress octets old [] out end → IsWritten held before out end after status → Passes course progress held (octets ++ rest) old before new after status
  passes_stop octets rest old new out before after end status room s w =
      passes_closed (octets ++ rest) old new out before after end status (stop_ends end s.stop) (λ first read text l.
      let k = s.stopped first read text l in
      stop_asks (course first) ⊥ (read ++ (octets ++ rest)) (text ++ out) end s.stop (record {
        front = k.0;
        more = k.1 ++ rest;
        place = sym (append_assoc read octets rest) ∙ ap (λ (xs : List ℕ). xs ++ rest) k.2 ∙ append_assoc k.0 k.1 rest;
        within = omega (arith, in_all octets old first read text room l, ap length k.2, length-append k.0 k.1);
        stops = subst (λ (t : List ℕ). (course first).stops k.0 (text ++ t) end) (sym s.appended) k.3;
      })) w

  -- a piece was taken to the limit, and an octet passed it
  pub passes_over : (octets : List ℕ) (octet : ℕ) (more : List ℕ) (old mid : T) (out text_out : List ℕ) (before after : K) (status : Status) → progress.octets old + length octets ≡ most_octets
      → Takes progress octets old [] mid out → Overflows course progress mid out text_out → IsWritten held before text_out TooMuch after status
      → Passes course progress held (octets ++ octet ∷ more) old before mid after status
  passes_over octets octet more old mid out text_out before after status full f o w =
      passes_closed (octets ++ octet ∷ more) old mid text_out before after TooMuch status tt (λ first read text l.
      let front = f.goes_on first read text l in
      let length_is : length (read ++ octets) ≡ most_octets = omega (arith, full, laws.counted first read text old l, length-append read octets) in
      let told : (text ++ f.told) ++ o.told ≡ text ++ text_out =
      append_assoc text f.told o.told ∙ ap (λ (t : List ℕ). text ++ t) (sym (o.appended ∙ ap (λ (t : List ℕ). t ++ o.told) f.appended)) in
      inr (record {
        front = read ++ octets;
        octet = octet;
        more = more;
        place = sym (append_assoc read octets (octet ∷ more));
        full = length_is;
        over = subst (λ (t : List ℕ). (course first).over (read ++ octets) t) told (o.over first (read ++ octets) (text ++ f.told) front length_is);
      })) w

  -- the input ended, and its text was closed
  pub closes_end : (old : T) (out : List ℕ) (before after : K) (end status : Status) → Ends course progress old [] out end → IsWritten held before out end after status
      → Closes course progress held old before after status
  closes_end old out before after end status e w =
      let asks : (first : T) (read text : List ℕ) → progress.led first read text old → length read ≤ most_octets → Asks (course first) (Unit {0}) read (text ++ out) end =
      λ first read text l within.
      end_asks (course first) (Unit {0}) tt read (text ++ out) end e.end (record {
        within = within;
        ends = subst (λ (t : List ℕ). (course first).ends read (text ++ t) end) (sym e.appended) (e.ended first read text l);
      }) in
      elim w [
        | inl all ↦ record {
          written = out;
          put = all.1;
          comes = λ first read text l within. closes_all (course first) (Unit {0}) read (text ++ out) end status e.end all.0 (asks first read text l within);
        }
        | inr cut ↦ record {
          written = cut.front;
          put = cut.put;
          comes = λ first read text l within. closes_cut (course first) (Unit {0}) read text out cut.front end status cut.cause cut.begins (asks first read text l within);
        }
      ]

  -- the same, by what the calls of the code ensure
  pub piece_taken : (octets : List ℕ) (old new : T) (start out words : List ℕ) (before after : K) (status : Status) → progress.octets old + length octets ≤ most_octets → start ≡ [] → words ≡ out
      → Takes progress octets old start new out → IsWritten held before words Done after status → Passes course progress held octets old before new after status
  piece_taken octets old new start out words before after status room none same f w =
      passes_ok octets old new out before after status room (subst (λ (s : List ℕ). Takes progress octets old s new out) none f)
      (subst (λ (t : List ℕ). IsWritten held before t Done after status) same w)

  pub piece_stopped : (octets all rest : List ℕ) (old new : T) (start out words : List ℕ) (before after : K) (end status : Status) → all ≡ octets ++ rest → progress.octets old + length octets ≤ most_octets
      → start ≡ [] → words ≡ out → (end ≡ NoMemory) ⊎ Stops course progress octets old start out end → IsClosed held before words end after status
      → Passes course progress held all old before new after status
  piece_stopped octets all rest old new start out words before after end status is room none same s (inl memory) =
      subst (λ (x : Status). Passes course progress held all old before new after x) (sym memory.1)
      (subst (λ (k : K). Passes course progress held all old before new k NoMemory) (sym memory.2) (passes_memory all old new before))
  piece_stopped octets all rest old new start out words before after end status is room none same (inl memory) (inr w) = absurd (w.0 memory)
  piece_stopped octets all rest old new start out words before after end status is room none same (inr s) (inr w) =
      subst (λ (xs : List ℕ). Passes course progress held xs old before new after status) (sym is)
      (passes_stop octets rest old new out before after end status room (subst (λ (x : List ℕ). Stops course progress octets old x out end) none s)
      (subst (λ (t : List ℕ). IsWritten held before t end after status) same w.1))

  pub piece_over : (octets : List ℕ) (n : ℕ) (old mid : T) (start out : List ℕ) (before after : K) (status : Status) → n < length octets → progress.octets old + n ≡ most_octets → start ≡ []
      → Takes progress (take n octets) old start mid out → IsOverWritten course progress held mid out before after status
      → Passes course progress held octets old before mid after status
  piece_over octets n old mid start out before after status lt full none f (inl memory) =
      subst (λ (s : Status). Passes course progress held octets old before mid after s) (sym memory.0)
      (subst (λ (k : K). Passes course progress held octets old before mid k NoMemory) (sym memory.1) (passes_memory octets old mid before))
  piece_over octets n old mid start out before after status lt full none f (inr told) =
      let parts : take n octets ++ get_or octets n 0 ∷ drop (n + 1) octets ≡ octets = ap (λ (xs : List ℕ). take n octets ++ xs) (sym (drop_more octets n 0 lt)) ∙ take-append-drop n octets in
      subst (λ (xs : List ℕ). Passes course progress held xs old before mid after status) parts
      (passes_over (take n octets) (get_or octets n 0) (drop (n + 1) octets) old mid out told.0 before after status (omega (arith, full, length-take-le n octets (omega (arith, lt))))
      (subst (λ (s : List ℕ). Takes progress (take n octets) old s mid out) none f) told.1 told.2)

  pub end_told : (old : T) (start out words : List ℕ) (before after : K) (end status : Status) → start ≡ [] → words ≡ out
      → (end ≡ NoMemory) ⊎ Ends course progress old start out end → IsClosed held before words end after status → Closes course progress held old before after status
  end_told old start out words before after end status none same e (inl memory) =
      subst (λ (x : Status). Closes course progress held old before after x) (sym memory.1)
      (subst (λ (k : K). Closes course progress held old before k NoMemory) (sym memory.2) (closes_memory old before))
  end_told old start out words before after end status none same (inl memory) (inr w) = absurd (w.0 memory)
  end_told old start out words before after end status none same (inr e) (inr w) =
      closes_end old out before after end status (subst (λ (x : List ℕ). Ends course progress old x out end) none e)
      (subst (λ (t : List ℕ). IsWritten held before t end after status) same w.1)

-- a status that a piece or the end of an input gives is no failed write, and a piece gives no Done
pub piece_write_fault : {T : Type 0} (course : T → Course) (progress : Progress T) (octets : List ℕ) (old : T) (before after : List ℕ) (end : Status) → (end ≡ NoMemory) ⊎ Stops course progress octets old before after end → end ≢ WriteFault
piece_write_fault course progress octets old before after end (inl memory) is = let e : NoMemory ≡ WriteFault = sym memory ∙ is in absurd (cc)
piece_write_fault course progress octets old before after end (inr s) is = end_not_write end (stop_ends end s.stop) is

pub end_write_fault : {T : Type 0} (course : T → Course) (progress : Progress T) (old : T) (before after : List ℕ) (end : Status) → (end ≡ NoMemory) ⊎ Ends course progress old before after end → end ≢ WriteFault
end_write_fault course progress old before after end (inl memory) is = let e : NoMemory ≡ WriteFault = sym memory ∙ is in absurd (cc)
end_write_fault course progress old before after end (inr e) is = end_not_write end e.end is

pub risen_of : {A B : Type 0} → A ⊎ B → (B → ⊥) → A
risen_of (inl a) never = a
risen_of (inr b) never = absurd (never b)

pub piece_not_done : {T K : Type 0} (course : T → Course) (progress : Progress T) (held : K → Option (List ℕ)) (octets : List ℕ) (old : T) (start out words : List ℕ) (before after : K) (end status : Status)
    → (end ≡ NoMemory) ⊎ Stops course progress octets old start out end → IsClosed held before words end after status → status ≢ Done
piece_not_done course progress held octets old start out words before after end status s (inl memory) is = let e : NoMemory ≡ Done = sym memory.1 ∙ is in absurd (cc)
piece_not_done course progress held octets old start out words before after end status (inl memory) (inr w) is = absurd (w.0 memory)
piece_not_done course progress held octets old start out words before after end status (inr s) (inr w) is = elim w.1 [
  | inl all ↦ stop_not_done end s.stop (sym all.0 ∙ is)
  | inr cut ↦ never_done status cut.cause is
]

pub over_not_done : {T K : Type 0} (course : T → Course) (progress : Progress T) (held : K → Option (List ℕ)) (now : T) (told : List ℕ) (before after : K) (status : Status) → IsOverWritten course progress held now told before after status → status ≢ Done
over_not_done course progress held now told before after status (inl memory) is = let e : NoMemory ≡ Done = sym memory.0 ∙ is in absurd (cc)
over_not_done course progress held now told before after status (inr w) is = elim w.2 [
  | inl all ↦ let e : TooMuch ≡ Done = sym all.0 ∙ is in absurd (cc)
  | inr cut ↦ never_done status cut.cause is
]

module _ {T : Type 0} (course : T → Course) (progress : Progress T) (laws : Laws course progress) {S K : Type 0} (left : S → Option (List ℕ)) (held : K → Option (List ℕ)) (source : S) (sink : K) where
  -- in the middle of a run
  pub record Running (first : T) (now_source : S) (now_sink : K) (now : T) : Type 0 where
    pub read : List ℕ
    pub text : List ℕ
    pub took : Took (left source) read (left now_source)
    pub put : Put (held sink) text (held now_sink)
    pub led : progress.led first read text now
    pub within : length read ≤ most_octets

  pub run_starts : (first : T) → progress.led first [] [] first → Running first source sink first
  run_starts first l = record { read = []; text = []; took = took_none (left source); put = put_none (held sink); led = l; within = omega arith }

  -- what comes of a run
  abbrev pub Ran : T → S → K → Status → Type 0
  Ran first now_source now_sink status = (read written : List ℕ) × Took (left source) read (left now_source) × Put (held sink) written (held now_sink) × Outcome (course first) (IsAtEnd (left now_source)) read written status
      × (length read ≤ most_octets + most_read)

  pub run_on : (first : T) (mid last : S) (mid_sink last_sink : K) (old new : T) (octets : List ℕ) → Running first mid mid_sink old → Took (left mid) octets (left last) → Passes course progress held octets old mid_sink new last_sink Done
      → Running first last last_sink new
  run_on first mid last mid_sink last_sink old new octets r t p =
      elim (p.comes first r.read r.text r.led r.within) [
        | inl on ↦ record {
          read = r.read ++ octets;
          text = r.text ++ p.written;
          took = took_on (left source) r.read (left mid) octets (left last) r.took t;
          put = put_on (held sink) r.text (held mid_sink) p.written (held last_sink) r.put p.put;
          led = on.1;
          within = on.2;
        }
        | inr ended ↦ absurd ended.1.0
      ]

  pub run_passed : (first : T) (mid last : S) (mid_sink last_sink : K) (old new : T) (buffer : List ℕ) (count : ℕ) (status : Status) → status ≢ Done → length buffer ≡ most_read → count ≤ length buffer → Running first mid mid_sink old
      → Took (left mid) (take count buffer) (left last) → Passes course progress held (take count buffer) old mid_sink new last_sink status → Ran first last last_sink status
  run_passed first mid last mid_sink last_sink old new buffer count status other room within r t p =
      let octets : List ℕ = take count buffer in (
        r.read ++ octets,
        r.text ++ p.written,
        took_on (left source) r.read (left mid) octets (left last) r.took t,
        put_on (held sink) r.text (held mid_sink) p.written (held last_sink) r.put p.put,
        elim (p.comes first r.read r.text r.led r.within) [
          | inl on ↦ absurd (other on.0)
          | inr ended ↦ outcome_on (course first) ⊥ (IsAtEnd (left last)) (λ never. absurd never) (r.read ++ octets) (r.text ++ p.written) status ended.1
        ],
        omega (arith, r.within, length-append r.read octets, length-take-le count buffer within),
      )

  pub passed_never_read : (first : T) (mid : S) (mid_sink last_sink : K) (old new : T) (octets : List ℕ) (status : Status) → Running first mid mid_sink old
      → Passes course progress held octets old mid_sink new last_sink status → status ≢ ReadFault
  passed_never_read first mid mid_sink last_sink old new octets status r p is =
      elim (p.comes first r.read r.text r.led r.within) [
        | inl on ↦ let e : Done ≡ ReadFault = sym on.0 ∙ is in absurd (cc)
        | inr ended ↦ ended.0 is
      ]

  pub run_closed : (first : T) (mid last : S) (mid_sink last_sink : K) (old : T) (buffer : List ℕ) (count : ℕ) (status : Status) → Running first mid mid_sink old → Took (left mid) (take count buffer) (left last) → count ≡ 0 → IsAtEnd (left last)
      → Closes course progress held old mid_sink last_sink status → Ran first last last_sink status
  run_closed first mid last mid_sink last_sink old buffer count status r t zero end p =
      let none : Took (left mid) [] (left last) = subst (λ (n : ℕ). Took (left mid) (take n buffer) (left last)) zero t in (
        r.read,
        r.text ++ p.written,
        subst (λ (xs : List ℕ). Took (left source) xs (left last)) (append-nil r.read) (took_on (left source) r.read (left mid) [] (left last) r.took none),
        put_on (held sink) r.text (held mid_sink) p.written (held last_sink) r.put p.put,
        outcome_on (course first) (Unit {0}) (IsAtEnd (left last)) (λ _. end) r.read (r.text ++ p.written) status (p.comes first r.read r.text r.led r.within).1,
        omega (arith, r.within),
      )

  pub closed_never_read : (first : T) (mid : S) (mid_sink last_sink : K) (old : T) (status : Status) → Running first mid mid_sink old → Closes course progress held old mid_sink last_sink status → status ≢ ReadFault
  closed_never_read first mid mid_sink last_sink old status r p = (p.comes first r.read r.text r.led r.within).0

  pub run_stopped : (first : T) (mid last : S) (mid_sink : K) (old : T) → left last ≡ left mid → Running first mid mid_sink old → Ran first last mid_sink ReadFault
  run_stopped first mid last mid_sink old same r =
      (r.read, r.text, subst (λ (o : Option (List ℕ)). Took (left source) r.read o) (sym same) r.took, r.put, (r.within, laws.reads first r.read r.text old r.led), omega (arith, r.within))
