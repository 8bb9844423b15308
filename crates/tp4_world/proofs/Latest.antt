-- A new end is the latest at its reference, and no other reference has another latest end by it.
use Rattle.std.proofs.Common.{◌≡◌, ℕ, ◌+◌, ◌*◌, ◌<◌, Bool, true, false, if◌then◌else◌, List, [], ◌∷◌, ◌++◌, length, Option, Some, refl, sym, ◌∙◌, ap, arith, nat_eq}
use Rattle.std.specs.Prelude.{unwrap_or, cond}
use Rattle.std.specs.Map.{update}
use Rattle.tp4_world.specs.World.{is_at, latest, latest_from}
use Rattle.tp4_world.specs.declared.place.EndAt.{EndAt}
use Rattle.tp4_world.specs.steps.Parts.{AreLatest, key_of}

pub latest_last : (next found : ℕ) (ends : List EndAt) (end : EndAt) (system reference : ℕ)
    → latest_from next found (ends ++ end ∷ []) system reference ≡ (if is_at system reference end then next + length ends else latest_from next found ends system reference)
latest_last next found [] end system reference = ap (λ (n : ℕ). if is_at system reference end then n else found) (omega arith)
latest_last next found (one ∷ ends) end system reference =
    latest_last (next + 1) (if is_at system reference one then next else found) ends end system reference
    ∙ ap (λ (n : ℕ). if is_at system reference end then n else latest_from (next + 1) (if is_at system reference one then next else found) ends system reference) (omega arith)

-- the key tells the system and the reference
there : (end : EndAt) (system reference : ℕ) → end.reference < 65536 → reference < 65536 → nat_eq (key_of end.system end.reference) (key_of system reference) ≡ true
    → is_at system reference end ≡ true
there end system reference low below e =
    let keys : end.system * 65536 + end.reference ≡ system * 65536 + reference = grind arith in
    let systems : end.system ≡ system = omega (arith, keys, low, below) in
    let references : end.reference ≡ reference = omega (arith, keys, low, below) in
    grind (arith, systems, references)

elsewhere : (end : EndAt) (system reference : ℕ) → nat_eq (key_of end.system end.reference) (key_of system reference) ≡ false → is_at system reference end ≡ false
elsewhere end system reference e = grind arith

moved : (ends : List EndAt) (end : EndAt) (old : Option ℕ) (new : Option ℕ) (system reference : ℕ) (same : Bool) → end.reference < 65536 → reference < 65536
    → nat_eq (key_of end.system end.reference) (key_of system reference) ≡ same → unwrap_or old 0 ≡ latest ends system reference
    → new ≡ cond same (Some (length ends + 1)) old → unwrap_or new 0 ≡ latest (ends ++ end ∷ []) system reference
moved ends end old new system reference true low below e was is =
    let turned : length ends + 1 ≡ 1 + length ends = omega arith in
    ap (λ (o : Option ℕ). unwrap_or o 0) is
    ∙ turned
    ∙ sym (latest_last 1 0 ends end system reference ∙ ap (λ (b : Bool). if b then 1 + length ends else latest ends system reference) (there end system reference low below e))
moved ends end old new system reference false low below e was is =
    ap (λ (o : Option ℕ). unwrap_or o 0) is
    ∙ was
    ∙ sym (latest_last 1 0 ends end system reference ∙ ap (λ (b : Bool). if b then 1 + length ends else latest ends system reference) (elsewhere end system reference e))

pub add_latest : (ends : List EndAt) (end : EndAt) (old new : ℕ → Option ℕ) → end.reference < 65536 → AreLatest ends old
    → ((q : ℕ) → new q ≡ update nat_eq old (key_of end.system end.reference) (Some (length ends + 1)) q) → AreLatest (ends ++ end ∷ []) new
add_latest ends end old new low are updates system reference below =
    moved ends end (old (key_of system reference)) (new (key_of system reference)) system reference (nat_eq (key_of end.system end.reference) (key_of system reference)) low below refl
    (are system reference below) (updates (key_of system reference))
