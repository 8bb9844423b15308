-- A queue stays one when more is submitted, as what is shown is a front of the units before; and one that shows nothing always is.
use Rattle.std.proofs.Common.{◌≡◌, ℕ, ◌<◌, List, [], ◌++◌, length, refl, sym, ◌∙◌, ap, subst, arith, append_assoc, length-append}
use Rattle.script_journal.specs.Lawful.{Marked, normals, expediteds, IsQueue}
use Rattle.law_tp4_history.proofs.Marks.{normals-append, expediteds-append, befores_kept}

pub queue_none : (given got : List Marked) → got ≡ [] → IsQueue given got
queue_none given got none = subst (IsQueue given) (sym none) (record { normal = (normals given, refl); expedited = (expediteds given, refl); order = λ k low. absurd (omega (arith, low)) })

pub queue_more : (given more got : List Marked) → IsQueue given got → IsQueue (given ++ more) got
queue_more given more got q =
    let n : normals (given ++ more) ≡ normals got ++ (q.normal.0 ++ normals more) =
    normals-append given more ∙ ap (λ (us : List (List ℕ)). us ++ normals more) q.normal.1 ∙ append_assoc (normals got) q.normal.0 (normals more) in
    let e : expediteds (given ++ more) ≡ expediteds got ++ (q.expedited.0 ++ expediteds more) =
    expediteds-append given more ∙ ap (λ (us : List (List ℕ)). us ++ expediteds more) q.expedited.1 ∙ append_assoc (expediteds got) q.expedited.0 (expediteds more) in
    record {
      normal = (q.normal.0 ++ normals more, n);
      expedited = (q.expedited.0 ++ expediteds more, e);
      order = λ k low.
          (let there : k < length (normals given) = omega (arith, low, ap length q.normal.1, length-append (normals got) q.normal.0) in
          omega (arith, q.order k low, befores_kept given more k there));
    }
