-- Nothing of a line is forgotten: what was sent stands in it whatever happens next.
use Rattle.std.proofs.Common.{ℕ, List, [], ◌∷◌, ◌++◌, sym, ◌∙◌, subst}
use Rattle.tp4_flow.specs.declared.step.Sent.{Sent}
use Rattle.law_tp4_history.specs.Ends.{Body, Plain, Dt, Ed, Ak, Ea}
use Rattle.law_tp4_history.specs.Line.{Line, Happening, next}
use Rattle.law_tp4_history.specs.Tracks.{Track, RunsBy}
use Rattle.law_tp4_history.proofs.Tracked.{Grows, grows_none, grows_on, grows_next}
use Rattle.law_tp4_history.specs.Seen.{seen}
use Rattle.law_tp4_history.specs.Lines.{IsIn, AreSentIn}

pub grows_by : (can : Track → Line → Happening → Type 0) (t : Track) (l new : Line) (happenings : List Happening) → RunsBy can t l happenings new → Grows t.size l new
grows_by can t l new [] r = subst (Grows t.size l) (sym r) (grows_none t.size l)
grows_by can t l new (happening ∷ happenings) r =
    grows_on t.size l (next t.rules l happening) new (grows_next t.rules t.size l happening) (grows_by can t (next t.rules l happening) new happenings r.1)

-- one list of happenings, and then another
pub runs_then : (can : Track → Line → Happening → Type 0) (t : Track) (l mid new : Line) (first more : List Happening)
    → RunsBy can t l first mid → RunsBy can t mid more new → RunsBy can t l (first ++ more) new
runs_then can t l mid new [] more r q = subst (λ (x : Line). RunsBy can t x more new) r q
runs_then can t l mid new (happening ∷ first) more r q = (r.0, runs_then can t (next t.rules l happening) mid new first more r.1 q)

-- what is sent stands in the lines as they go on
abbrev pub at_line : Track → Line → Track
at_line t l = record t { line = l }

is_later : (own theirs : Track) (l m : Line) (tick : ℕ) (body : Body) → Grows own.size own.line l → Grows theirs.size theirs.line m
    → IsIn own theirs tick body → IsIn (at_line own l) (at_line theirs m) tick body
is_later own theirs l m tick Plain g h is = tt
is_later own theirs l m tick (Dt n piece) g h is = (is.0, g.sends (n, tick) is.1, g.pieces n piece is.2)
is_later own theirs l m tick (Ed n octets) g h is = let u = g.units n is.2 in (is.0, g.eds (n, tick) is.1, u.0, is.3 ∙ sym u.1)
is_later own theirs l m tick (Ak n credit subsequence) g h is = (is.0, h.answers _ is.1)
is_later own theirs l m tick (Ea n) g h is = (is.0, h.eas (n, tick) is.1)

pub sent_later : (own theirs : Track) (l m : Line) (tick : ℕ) (tpdus : List Sent) → Grows own.size own.line l → Grows theirs.size theirs.line m
    → AreSentIn own theirs tick tpdus → AreSentIn (at_line own l) (at_line theirs m) tick tpdus
sent_later own theirs l m tick [] g h are = tt
sent_later own theirs l m tick (sent ∷ tpdus) g h are = (
  record { n = are.0.n; numbered = are.0.numbered; stands = is_later own theirs l m tick (seen are.0.n sent.tpdu).body g h are.0.stands },
  sent_later own theirs l m tick tpdus g h are.1,
)

pub sent_both : (own theirs : Track) (tick : ℕ) (first more : List Sent) → AreSentIn own theirs tick first → AreSentIn own theirs tick more → AreSentIn own theirs tick (first ++ more)
sent_both own theirs tick [] more a b = b
sent_both own theirs tick (sent ∷ first) more a b = (a.0, sent_both own theirs tick first more a.1 b)
