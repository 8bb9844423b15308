-- The order of views.
use Rattle.std.proofs.Common.{◌≡◌, ◌≤◌, List, [], ◌∷◌, ◌++◌, refl, sym, ◌∙◌, subst, arith}
use Rattle.tp4_number.specs.Traffic.{Answer}
use Rattle.law_recovery_pair.specs.Views.{View, view_of, IsNoOlder, Further, Later, Wider, LeadsTo}

pub same_view : (a : View) → IsNoOlder a a
same_view a = Wider refl refl (omega arith)

pub older_low : (a b : View) → IsNoOlder a b → a.number ≤ b.number
older_low a b (Further f) = omega (arith, f)
older_low a b (Later n l) = omega (arith, n)
older_low a b (Wider n q w) = omega (arith, n)

pub older_then : (a b c : View) → IsNoOlder a b → IsNoOlder b c → IsNoOlder a c
older_then a b c (Further f) (Further g) = Further (omega (arith, f, g))
older_then a b c (Further f) (Later n l) = Further (omega (arith, f, n))
older_then a b c (Further f) (Wider n q w) = Further (omega (arith, f, n))
older_then a b c (Later n l) (Further g) = Further (omega (arith, n, g))
older_then a b c (Later n l) (Later m k) = Later (n ∙ m) (omega (arith, l, k))
older_then a b c (Later n l) (Wider m q w) = Later (n ∙ m) (omega (arith, l, q))
older_then a b c (Wider n q w) (Further g) = Further (omega (arith, n, g))
older_then a b c (Wider n q w) (Later m k) = Later (n ∙ m) (omega (arith, q, k))
older_then a b c (Wider n q w) (Wider m p x) = Wider (n ∙ m) (q ∙ p) (omega (arith, w, x))

pub older_both : (a b : View) → IsNoOlder a b → IsNoOlder b a → a ≡ b
older_both a b (Further f) g = absurd (omega (arith, f, older_low b a g))
older_both a b (Later n l) (Further g) = absurd (omega (arith, n, g))
older_both a b (Later n l) (Later m k) = absurd (omega (arith, l, k))
older_both a b (Later n l) (Wider m q w) = absurd (omega (arith, l, q))
older_both a b (Wider n q w) (Further g) = absurd (omega (arith, n, g))
older_both a b (Wider n q w) (Later m k) = absurd (omega (arith, q, k))
older_both a b (Wider n q w) (Wider m p x) = let same : a.credit ≡ b.credit = omega (arith, w, x) in λ i. record { number = n i; credit = same i; subsequence = q i }

-- one AK more
pub leads_on : (from : View) (waiting : List Answer) (to : View) (new : Answer) → LeadsTo from waiting to → IsNoOlder to (view_of new) → LeadsTo from (waiting ++ new ∷ []) (view_of new)
leads_on from [] to new l n = (subst (λ (v : View). IsNoOlder v (view_of new)) (sym l) n, refl)
leads_on from (a ∷ rest) to new l n = (l.0, leads_on (view_of a) rest to new l.1 n)

-- an older beginning
pub leads_from : (from other : View) (a : Answer) (rest : List Answer) (to : View) → IsNoOlder other (view_of a) → LeadsTo from (a ∷ rest) to → LeadsTo other (a ∷ rest) to
leads_from from other a rest to o l = (o, l.1)
