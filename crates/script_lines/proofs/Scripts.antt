-- A script is read in one way: its lines, or its first fault.
use Rattle.std.proofs.Common.{◌≡◌, ℕ, suc, ◌+◌, List, [], ◌∷◌, ◌++◌, length, refl, sym, ◌∙◌, ap, subst}
use Rattle.std.specs.Prelude.{Result, Ok, Err}
use Rattle.script_lines.specs.declared.cause.LineFault.{LineFault}
use Rattle.script_lines.specs.declared.line.Line.{Line}
use Rattle.script_lines.specs.declared.words.Dialect.{Dialect}
use Rattle.script_lines.specs.Known.{Declared, nothing_declared}
use Rattle.script_lines.specs.Grammar.{Reading, line_read}
use Rattle.script_lines.specs.Script.{Says, Script, LineFaultAt}

ok_same : (read : Result Reading LineFault) (first second : Reading) → read ≡ Ok first → read ≡ Ok second → first ≡ second
ok_same read first second a b = cc

err_same : (read : Result Reading LineFault) (first second : LineFault) → read ≡ Err first → read ≡ Err second → first ≡ second
err_same read first second a b = cc

not_both : (read : Result Reading LineFault) (reading : Reading) (found : LineFault) → read ≡ Ok reading → read ≡ Err found → ⊥
not_both read reading found a b = absurd (cc)

head_same : {A : Type 0} (x y : A) (xs ys : List A) → x ∷ xs ≡ y ∷ ys → (x ≡ y) × (xs ≡ ys)
head_same x y xs ys is = (cc, cc)

says_one : (old : Declared) (script : List (List ℕ)) (a b : List Line) (m n : Declared) → Says old script a m → Says old script b n → (a ≡ b) × (m ≡ n)
says_one old [] [] [] m n p q = (refl, p ∙ sym q)
says_one old [] [] (y ∷ b) m n p q = absurd q
says_one old [] (x ∷ a) b m n p q = absurd p
says_one old (o ∷ os) [] b m n p q = absurd p
says_one old (o ∷ os) (x ∷ a) [] m n p q = absurd q
says_one old (o ∷ os) (x ∷ a) (y ∷ b) m n p q =
    let same = ok_same (line_read old o) (record { line = x; names = p.0 }) (record { line = y; names = q.0 }) p.1 q.1 in
    let lines : x ≡ y = ap (λ (r : Reading). r.line) same in
    let names : q.0 ≡ p.0 = sym (ap (λ (r : Reading). r.names) same) in
    let rest = says_one p.0 os a b m n p.2 (subst (λ (d : Declared). Says d os b n) names q.2) in
    ((let others = rest.0 in cc), rest.1)

record Same (a b : List (List ℕ)) (f g : LineFault) : Type 0 where
  places : length a ≡ length b
  faults : f ≡ g

no_fault_first : (old : Declared) (o r : List ℕ) (os : List (List ℕ)) (lines : List Line) (last : Declared) (f : LineFault) → r ≡ o → Says old (o ∷ os) lines last → line_read old r ≡ Err f → ⊥
no_fault_first old o r os [] last f same says is = says
no_fault_first old o r os (line ∷ lines) last f same says is =
    not_both (line_read old o) (record { line = line; names = says.0 }) f says.1 (subst (λ (x : List ℕ). line_read old x ≡ Err f) same is)

fails_one : (old : Declared) (a b : List (List ℕ)) (r s : List ℕ) (c d : List (List ℕ)) (f g : LineFault) (k l : List Line) (m n : Declared)
    → Says old a k m → line_read m r ≡ Err f → Says old b l n → line_read n s ≡ Err g → a ++ r ∷ c ≡ b ++ s ∷ d → Same a b f g
fails_one old [] [] r s c d f g [] [] m n p pf q qf is =
    let same = (head_same r s c d is).0 in
    let at_m : line_read old r ≡ Err f = subst (λ (names : Declared). line_read names r ≡ Err f) p pf in
    let at_n : line_read old s ≡ Err g = subst (λ (names : Declared). line_read names s ≡ Err g) q qf in
    record { places = refl; faults = err_same (line_read old s) f g (subst (λ (x : List ℕ). line_read old x ≡ Err f) same at_m) at_n }
fails_one old [] [] r s c d f g [] (y ∷ l) m n p pf q qf is = absurd q
fails_one old [] b r s c d f g (x ∷ k) l m n p pf q qf is = absurd p
fails_one old [] (o ∷ b) r s c d f g [] l m n p pf q qf is =
    let same = (head_same r o c (b ++ s ∷ d) is).0 in
    absurd (no_fault_first old o r b l n f same q (subst (λ (names : Declared). line_read names r ≡ Err f) p pf))
fails_one old (o ∷ a) [] r s c d f g k [] m n p pf q qf is =
    let same = (head_same o s (a ++ r ∷ c) d is).0 in
    absurd (no_fault_first old o s a k m g (sym same) p (subst (λ (names : Declared). line_read names s ≡ Err g) q qf))
fails_one old (o ∷ a) [] r s c d f g k (y ∷ l) m n p pf q qf is = absurd q
fails_one old (o ∷ a) (e ∷ b) r s c d f g [] l m n p pf q qf is = absurd p
fails_one old (o ∷ a) (e ∷ b) r s c d f g (x ∷ k) [] m n p pf q qf is = absurd q
fails_one old (o ∷ a) (e ∷ b) r s c d f g (x ∷ k) (y ∷ l) m n p pf q qf is =
    let heads = head_same o e (a ++ r ∷ c) (b ++ s ∷ d) is in
    let first : line_read old e ≡ Ok (record { line = x; names = p.0 }) = subst (λ (z : List ℕ). line_read old z ≡ Ok (record { line = x; names = p.0 })) heads.0 p.1 in
    let same = ok_same (line_read old e) (record { line = x; names = p.0 }) (record { line = y; names = q.0 }) first q.1 in
    let names : q.0 ≡ p.0 = sym (ap (λ (z : Reading). z.names) same) in
    let rest = fails_one p.0 a b r s c d f g k l m n p.2 pf (subst (λ (z : Declared). Says z b l n) names q.2) qf heads.1 in
    record { places = ap suc rest.places; faults = rest.faults }

-- a script has no fault
says_no_fault : (old : Declared) (a : List (List ℕ)) (r : List ℕ) (c : List (List ℕ)) (f : LineFault) (k l : List Line) (m n : Declared)
    → Says old a k m → line_read m r ≡ Err f → Says old (a ++ r ∷ c) l n → ⊥
says_no_fault old [] r c f [] l m n p pf q = no_fault_first old r r c l n f refl q (subst (λ (names : Declared). line_read names r ≡ Err f) p pf)
says_no_fault old [] r c f (x ∷ k) l m n p pf q = p
says_no_fault old (o ∷ a) r c f [] l m n p pf q = p
says_no_fault old (o ∷ a) r c f (x ∷ k) [] m n p pf q = q
says_no_fault old (o ∷ a) r c f (x ∷ k) (y ∷ l) m n p pf q =
    let same = ok_same (line_read old o) (record { line = x; names = p.0 }) (record { line = y; names = q.0 }) p.1 q.1 in
    let names : q.0 ≡ p.0 = sym (ap (λ (z : Reading). z.names) same) in
    says_no_fault p.0 a r c f k l m n p.2 pf (subst (λ (z : Declared). Says z (a ++ r ∷ c) l n) names q.2)

pub one_script : (dialect : Dialect) (script : List (List ℕ)) (a b : List Line) → Script dialect script a → Script dialect script b → a ≡ b
one_script dialect script a b p q = (says_one (nothing_declared dialect) script a b p.0 q.0 p.1 q.1).0

pub one_fault : (dialect : Dialect) (script : List (List ℕ)) (m n : ℕ) (f g : LineFault) → LineFaultAt dialect script m f → LineFaultAt dialect script n g → (m ≡ n) × (f ≡ g)
one_fault dialect script m n f g p q =
    let same = fails_one (nothing_declared dialect) p.before q.before p.refused q.refused p.after q.after f g p.lines q.lines p.names q.names p.said p.found_is q.said q.found_is (sym p.is ∙ q.is) in
    (p.number_is ∙ ap (λ (k : ℕ). k + 1) same.places ∙ sym q.number_is, same.faults)

pub no_fault : (dialect : Dialect) (script : List (List ℕ)) (a : List Line) (n : ℕ) (f : LineFault) → Script dialect script a → LineFaultAt dialect script n f → ⊥
no_fault dialect script a n f p q =
    says_no_fault (nothing_declared dialect) q.before q.refused q.after f q.lines a q.names p.0 q.said q.found_is (subst (λ (s : List (List ℕ)). Says (nothing_declared dialect) s a p.0) q.is p.1)
