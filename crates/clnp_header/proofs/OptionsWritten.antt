-- Options one after another: what is behind an index is the option there and what is behind it.
use Rattle.std.proofs.Common.{◌≡◌, ℕ, zero, suc, ◌+◌, ◌<◌, ◌≤◌, List, [], ◌∷◌, ◌++◌, length, get_or, drop, sym, ap, ◌∙◌, arith, length-append}
use Rattle.std.proofs.lemmas.List.{drop_more, drop_all}
use Rattle.pdu_parts.specs.Parameter.{spelled, spelled_one}
use Rattle.clnp_header.specs.declared.pdu.OwnOpt.{OwnOpt}
use Rattle.clnp_header.specs.Values.{parameter, parameters}

pub spelled_behind : (options : List OwnOpt) (i : ℕ) (option : OwnOpt) → i < length options → option ≡ get_or options i option
    → spelled (parameters (drop i options)) ≡ spelled_one (parameter option) ++ spelled (parameters (drop (i + 1) options))
spelled_behind options i option lt is =
    let here : drop i options ≡ option ∷ drop (i + 1) options = drop_more options i option lt ∙ ap (λ (x : OwnOpt). x ∷ drop (i + 1) options) (sym is) in
    ap (λ (xs : List OwnOpt). spelled (parameters xs)) here

pub length_behind : (options : List OwnOpt) (i : ℕ) (option : OwnOpt) → i < length options → option ≡ get_or options i option
    → length (spelled (parameters (drop i options))) ≡ (2 + length option.value) + length (spelled (parameters (drop (i + 1) options)))
length_behind options i option lt is =
    ap length (spelled_behind options i option lt is) ∙ length-append (spelled_one (parameter option)) (spelled (parameters (drop (i + 1) options))) ∙ omega arith

pub nothing_behind : (options : List OwnOpt) (i : ℕ) → length options ≤ i → spelled (parameters (drop i options)) ≡ []
nothing_behind options i le = ap (λ (xs : List OwnOpt). spelled (parameters xs)) (drop_all i options le)

drop_shorter : (options : List OwnOpt) (i : ℕ) → length (spelled (parameters (drop i options))) ≤ length (spelled (parameters options))
drop_shorter options zero = omega arith
drop_shorter [] (suc i) = omega arith
drop_shorter (option ∷ options) (suc i) =
    let e = length-append (spelled_one (parameter option)) (spelled (parameters options)) in
    let h = drop_shorter options i in
    omega arith

pub value_within : (options : List OwnOpt) (i : ℕ) (option : OwnOpt) → i < length options → option ≡ get_or options i option → length option.value ≤ length (spelled (parameters options))
value_within options i option lt is = omega (arith, length_behind options i option lt is, drop_shorter options i)
