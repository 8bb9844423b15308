use Rattle.std.proofs.Common.{◌≡◌, ◌/◌, ◌%◌, ◌∙◌, ◌∷◌, [], ap, ℕ, length, refl, arith}
use Rattle.lan_frame.proofs.Put.{put_two, put_three, put_four}
use Rattle.lan_frame.proofs.writing.header_of.Goals as goal

pub slice_bounds-header-end-3 : goal.slice_bounds-header-end-3
slice_bounds-header-end-3 c =
    let to : length c.copy_from_slice.new.self ≡ 6 = ap length c.copy_from_slice.ensures.after ∙ c.requires.to in
    let from : length c.copy_from_slice-2.new.self ≡ 6 = ap length c.copy_from_slice-2.ensures.after ∙ c.requires.from in
    omega (arith, put_two c.copy_from_slice.new.self c.copy_from_slice-2.new.self to from)

pub slice_bounds-header-end-4 : goal.slice_bounds-header-end-4
slice_bounds-header-end-4 c =
    let to : length c.copy_from_slice.new.self ≡ 6 = ap length c.copy_from_slice.ensures.after ∙ c.requires.to in
    let from : length c.copy_from_slice-2.new.self ≡ 6 = ap length c.copy_from_slice-2.ensures.after ∙ c.requires.from in
    let behind : length c.copy_from_slice-3.new.self ≡ 2 = ap length (c.copy_from_slice-3.ensures.after ∙ c.to_be_bytes.ensures) in
    omega (arith, put_three c.copy_from_slice.new.self c.copy_from_slice-2.new.self c.copy_from_slice-3.new.self to from behind)

pub returns : goal.returns
returns c =
    let high : c.args.behind / 256 % 256 ≡ c.args.behind / 256 = omega (arith, c.ranges.behind.fits) in
    let behind : c.copy_from_slice-3.new.self ≡ c.args.behind / 256 ∷ c.args.behind % 256 ∷ [] =
    c.copy_from_slice-3.ensures.after ∙ (c.to_be_bytes.ensures ∙ ap (λ (octet : ℕ). octet ∷ c.args.behind % 256 ∷ []) high) in
    rw c.copy_from_slice.ensures.after
    (rw c.copy_from_slice-2.ensures.after
    (rw behind
    (rw c.copy_from_slice-4.ensures.after
    (put_four c.args.to.now c.args.from.now (c.args.behind / 256 ∷ c.args.behind % 256 ∷ []) (254 ∷ 254 ∷ 3 ∷ []) c.requires.to c.requires.from refl refl))))
