-- What was read goes on with octets of a line, with the end of a line, or stops. The runs of lines compose and split.
use Rattle.std.proofs.Common.{◌≡◌, ◌≢◌, ℕ, zero, suc, ◌+◌, ◌-◌, ◌<◌, ◌≤◌, List, [], ◌∷◌, ◌++◌, length, take, drop, map, get_or, inl, inr, refl, sym, ◌∙◌, ap, subst, append_assoc, arith}
use Rattle.std.specs.List.{AllByRecursion}
use Rattle.std.proofs.lemmas.List.{append-nil, map-append, length-append, length-take-le, take-append-drop, drop_more, length_push}
use Rattle.osi_base.proofs.Members.{all_take}
use Rattle.osi_base.proofs.Young.{all_last}
use Rattle.line_loop.specs.Limits.{most_octets}
use Rattle.line_loop.specs.Lines.{most_lines, most_in_line, whole_lines, open_line, last_line, without_return}
use Rattle.line_loop.specs.steps.Joined.{HasNoFeed}
use Rattle.line_loop.specs.Meaning.{Meaning}
use Rattle.line_loop.specs.Course.{Runs, IsRead, IsFull, IsTooMuch, IsRefusedAt}
use Rattle.line_loop.proofs.Lines.{whole_feed, open_feed, whole_part, open_part}

pub all_front : {A : Type 0} (P : A → Type 0) (xs : List A) (x : A) → AllByRecursion P (xs ++ x ∷ []) → AllByRecursion P xs × P x
all_front P [] x h = (tt, h.0)
all_front P (y ∷ xs) x h = let rest = all_front P xs x h.1 in ((h.0, rest.0), rest.1)

all_get : {A : Type 0} (P : A → Type 0) (n : ℕ) (xs : List A) (d : A) → n < length xs → AllByRecursion P xs → P (get_or xs n d)
all_get P n [] d lt h = absurd (omega arith)
all_get P zero (x ∷ xs) d lt h = h.0
all_get P (suc n) (x ∷ xs) d lt h = all_get P n xs d (omega arith) h.1

split_at : (n : ℕ) (part : List ℕ) → n < length part → part ≡ take n part ++ get_or part n 0 ∷ drop (n + 1) part
split_at n part lt = sym (take-append-drop n part) ∙ ap (λ (rest : List ℕ). take n part ++ rest) (drop_more part n 0 lt)

pub last_line-le : (line : List ℕ) → length (last_line line) ≤ 1
last_line-le [] = omega arith
last_line-le (octet ∷ line) = omega arith

module _ {M E R : Type 0} (meaning : Meaning M E R) where
  pub runs_on : (first : M) (lines more : List (List ℕ)) (journal events : List E) (middle last : M)
      → Runs meaning first lines journal middle → Runs meaning middle more events last → Runs meaning first (lines ++ more) (journal ++ events) last
  runs_on first [] more journal events middle last h k =
      subst (λ (j : List E). Runs meaning first more (j ++ events) last) (sym h.0) (subst (λ (m : M). Runs meaning m more events last) h.1 k)
  runs_on first (line ∷ lines) more journal events middle last h k =
      (h.0, h.1, h.2 ++ events, h.3, ap (λ (j : List E). j ++ events) h.4 ∙ append_assoc h.0 h.2 events, runs_on h.1 lines more h.2 events middle last h.5 k)

  pub runs_one : (old : M) (line : List ℕ) (events : List E) (new : M) → meaning.step old line events new → Runs meaning old (line ∷ []) events new
  runs_one old line events new s = (events, new, [], s, sym (append-nil events), (refl, refl))

  pub runs_split : (first : M) (lines more : List (List ℕ)) (journal : List E) (last : M) → Runs meaning first (lines ++ more) journal last
      → (before : List E) × (middle : M) × (events : List E) × Runs meaning first lines before middle × Runs meaning middle more events last × (journal ≡ before ++ events)
  runs_split first [] more journal last h = ([], first, journal, (refl, refl), h, refl)
  runs_split first (line ∷ lines) more journal last h =
      let r = runs_split h.1 lines more h.2 last h.5 in
      (h.0 ++ r.0, r.1, r.2, (h.0, h.1, r.0, h.3, refl, r.3), r.4, h.4 ∙ ap (λ (j : List E). h.0 ++ j) r.5 ∙ sym (append_assoc h.0 r.0 r.2))

  pub one_step_of : (old : M) (line : List ℕ) (events : List E) (new : M) → Runs meaning old (line ∷ []) events new → meaning.step old line events new
  one_step_of old line events new h =
      subst (λ (e : List E). meaning.step old line e new) (sym (h.4 ∙ ap (λ (j : List E). h.0 ++ j) h.5.0 ∙ append-nil h.0)) (subst (λ (m : M). meaning.step old line h.0 m) (sym h.5.1) h.3)

  pub read_none : (first : M) → IsRead meaning first [] [] first
  read_none first = record { fits = record { in_all = omega arith; lines = omega arith; each = tt; last = omega arith }; runs = (refl, refl) }

  -- octets of the open line
  pub read_part : (first : M) (read part : List ℕ) (journal : List E) (last : M) → IsRead meaning first read journal last → HasNoFeed part
      → length read + length part ≤ most_octets → length (whole_lines read) < most_lines → length (open_line read) + length part ≤ most_in_line
      → IsRead meaning first (read ++ part) journal last
  read_part first read part journal last r none octets lines within = record {
    fits = record {
      in_all = omega (arith, length-append read part);
      lines = omega (arith, ap length (whole_part read part none), last_line-le (open_line (read ++ part)));
      each = subst (λ (ls : List (List ℕ)). AllByRecursion (λ line. length line ≤ most_in_line) ls) (sym (whole_part read part none)) r.fits.each;
      last = omega (arith, ap length (open_part read part none), length-append (open_line read) part);
    };
    runs = subst (λ (ls : List (List ℕ)). Runs meaning first (map without_return ls) journal last) (sym (whole_part read part none)) r.runs;
  }

  -- the end of the open line
  pub read_line : (first : M) (read : List ℕ) (journal : List E) (last : M) (events : List E) (new : M) → IsRead meaning first read journal last
      → meaning.step last (without_return (open_line read)) events new → length read < most_octets → length (whole_lines read) < most_lines
      → IsRead meaning first (read ++ 10 ∷ []) (journal ++ events) new
  read_line first read journal last events new r s octets lines =
      let whole : whole_lines (read ++ 10 ∷ []) ≡ whole_lines read ++ open_line read ∷ [] = whole_feed read [] in
      record {
        fits = record {
          in_all = omega (arith, length-append read (10 ∷ []));
          lines = omega (arith, ap length whole, length_push (whole_lines read) (open_line read), ap (λ (line : List ℕ). length (last_line line)) (open_feed read []));
          each = subst (λ (ls : List (List ℕ)). AllByRecursion (λ line. length line ≤ most_in_line) ls) (sym whole) (all_last (λ line. length line ≤ most_in_line) (whole_lines read) (open_line read) r.fits.each r.fits.last);
          last = omega (arith, ap length (open_feed read []));
        };
        runs = subst (λ (ls : List (List ℕ)). Runs meaning first ls (journal ++ events) new)
            (sym (ap (map without_return) whole ∙ map-append without_return (whole_lines read) (open_line read ∷ [])))
            (runs_on first (map without_return (whole_lines read)) (without_return (open_line read) ∷ []) journal events last new r.runs (runs_one last (without_return (open_line read)) events new s));
      }

  -- what comes behind the octet that stops the run changes nothing
  pub refused_more : (first : M) (read more : List ℕ) (line : ℕ) (said : R) (journal : List E) (last : M) → IsRefusedAt meaning first read line said journal last → IsRefusedAt meaning first (read ++ more) line said journal last
  refused_more first read more line said journal last r = record {
    front = r.front;
    octet = r.octet;
    more = r.more ++ more;
    place = ap (λ (xs : List ℕ). xs ++ more) r.place ∙ append_assoc r.front (r.octet ∷ r.more) more;
    so_far = r.so_far;
    within = r.within;
    refused = r.refused;
    number = r.number;
  }

  pub too_much_more : (first : M) (read more : List ℕ) (journal : List E) (last : M) → IsTooMuch meaning first read journal last → IsTooMuch meaning first (read ++ more) journal last
  too_much_more first read more journal last r = record {
    front = r.front;
    octet = r.octet;
    more = r.more ++ more;
    place = ap (λ (xs : List ℕ). xs ++ more) r.place ∙ append_assoc r.front (r.octet ∷ r.more) more;
    before = r.before;
    state = r.state;
    events = r.events;
    so_far = r.so_far;
    over = r.over;
    journal_is = r.journal_is;
  }

  -- the line feed of a line that is refused
  pub refused_line_here : (first : M) (read : List ℕ) (said : R) (journal : List E) (last : M) → IsRead meaning first read journal last
      → length read < most_octets → length (whole_lines read) < most_lines → meaning.refuses last (without_return (open_line read)) said
      → IsRefusedAt meaning first (read ++ 10 ∷ []) (length (whole_lines read) + 1) said journal last
  refused_line_here first read said journal last r octets lines no_line = record {
    front = read;
    octet = 10;
    more = [];
    place = refl;
    so_far = r;
    within = (octets, lines);
    refused = inl (refl, no_line);
    number = refl;
  }

  -- the first octet too many of a line
  pub refused_long_here : (first : M) (read part : List ℕ) (journal : List E) (last : M) → IsRead meaning first read journal last → HasNoFeed part
      → length read + length part ≤ most_octets → length (whole_lines read) < most_lines → most_in_line < length (open_line read) + length part
      → IsRefusedAt meaning first (read ++ part) (length (whole_lines read) + 1) (meaning.too_long last) journal last
  refused_long_here first read part journal last r none octets lines past =
      let n : ℕ = most_in_line - length (open_line read) in
      let open_fits : length (open_line read) ≤ most_in_line = r.fits.last in
      let lt : n < length part = omega arith in
      let taken : length (take n part) ≡ n = length-take-le n part (omega arith) in
      let none_taken : HasNoFeed (take n part) = all_take (λ (x : ℕ). x ≢ 10) n part none in
      let whole : whole_lines (read ++ take n part) ≡ whole_lines read = whole_part read (take n part) none_taken in
      record {
        front = read ++ take n part;
        octet = get_or part n 0;
        more = drop (n + 1) part;
        place = ap (λ (xs : List ℕ). read ++ xs) (split_at n part lt) ∙ sym (append_assoc read (take n part) (get_or part n 0 ∷ drop (n + 1) part));
        so_far = read_part first read (take n part) journal last r none_taken (omega arith) lines (omega arith);
        within = (omega (arith, length-append read (take n part)), omega (arith, ap length whole));
        refused = inr (all_get (λ (x : ℕ). x ≢ 10) n part 0 lt none, ap length (open_part read (take n part) none_taken) ∙ length-append (open_line read) (take n part) ∙ omega arith, refl);
        number = ap (λ (ls : List (List ℕ)). length ls + 1) (sym whole);
      }

  -- an octet that passes a limit
  pub too_much_here : (first : M) (read : List ℕ) (octet : ℕ) (more : List ℕ) (journal : List E) (last : M) → IsRead meaning first read journal last → IsFull read
      → IsTooMuch meaning first (read ++ octet ∷ more) journal last
  too_much_here first read octet more journal last r full = record {
    front = read;
    octet = octet;
    more = more;
    before = journal;
    state = last;
    events = [];
    place = refl;
    so_far = r;
    over = inl (full, refl, refl);
    journal_is = sym (append-nil journal);
  }

  -- the line feed of a line that fills the journal
  pub filled_here : (first : M) (read : List ℕ) (journal : List E) (state : M) (events : List E) (last : M) → IsRead meaning first read journal state
      → length read < most_octets → length (whole_lines read) < most_lines → meaning.fills state (without_return (open_line read)) events last
      → IsTooMuch meaning first (read ++ 10 ∷ []) (journal ++ events) last
  filled_here first read journal state events last r octets lines fills = record {
    front = read;
    octet = 10;
    more = [];
    before = journal;
    state = state;
    events = events;
    place = refl;
    so_far = r;
    over = inr (refl, (octets, lines), fills);
    journal_is = refl;
  }
