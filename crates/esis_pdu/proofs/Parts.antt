-- The parts that are read are spelled there, and what is spelled is read, for each type of PDU.
use Rattle.std.proofs.Common.{◌≡◌, ℕ, cond, Bool, true, false, List, [], ◌∷◌, ◌++◌, length, Option, Some, None, refl, sym, ap, ◌∙◌, append_assoc, arith}
use Rattle.std.specs.Prelude.{◌==◌, IfSome}
use Rattle.std.specs.List.{flat_map, AllByRecursion}
use Rattle.esis_pdu.specs.declared.hello.Hello.{Hello}
use Rattle.esis_pdu.specs.declared.hello.Hello.TheVariants.{Esh, Ish, Rd}
use Rattle.pdu_parts.specs.Field.{IsAddress, address_at, field}
use Rattle.pdu_parts.proofs.Addresses.{reads_address}
use Rattle.esis_pdu.specs.Addresses.{◌>>=◌, addresses_at, counted_at, esh_at, ish_at, parts_at, rd_at, snpa_at, title_at}
use Rattle.esis_pdu.specs.Hellos.{Esis, IsAddressed, hold_of, parts, title_field, type_of}
use Rattle.esis_pdu.proofs.Fields.{AreRead, IsAddressAt, IsSnpa, IsTitleAt, address_takes, addresses_again, addresses_take, each_some, snpa_again, snpa_takes, some_of, then_some, title_again, title_takes}

-- the parts of that type and with that holding time were read, and are spelled there
pub record IsRead (type hold : ℕ) (body : List ℕ) (x : Esis) : Type 0 where
  pub type_is : type_of x.hello ≡ type
  pub hold_is : hold_of x.hello ≡ hold
  pub addressed : IsAddressed x.hello
  pub spelled : body ≡ parts x.hello ++ x.options

-- ---- ESH

abbrev AreCounted : List ℕ → List (List ℕ) × List ℕ → Type 0
AreCounted body x = (body ≡ (length x.0 ∷ flat_map field x.0) ++ x.1) × AllByRecursion IsAddress x.0

counted_takes : (body : List ℕ) → IfSome (counted_at body) (AreCounted body)
unfolding counted_at
counted_takes [] = tt
counted_takes (count ∷ octets) =
    each_some (addresses_at count octets) _ (λ x e.
    let read = some_of (addresses_at count octets) (AreRead octets count) x (addresses_take count octets) e in
    (ap (λ (n : ℕ). n ∷ octets) (sym read.number) ∙ ap (λ (xs : List ℕ). length x.0 ∷ xs) read.spelled, read.each))

counted_again : (addresses : List (List ℕ)) (rest : List ℕ) → AllByRecursion IsAddress addresses
    → counted_at ((length addresses ∷ flat_map field addresses) ++ rest) ≡ Some (addresses, rest)
unfolding counted_at
counted_again addresses rest fits = addresses_again addresses rest fits

esh_takes : (hold : ℕ) (body : List ℕ) → IfSome (esh_at hold body) (IsRead 2 hold body)
unfolding esh_at
esh_takes hold body =
    then_some (counted_at body) (λ x. Some (record { hello = Esh hold x.0; options = x.1 })) (AreCounted body) (IsRead 2 hold body) (counted_takes body)
    (λ x read. record { type_is = refl; hold_is = refl; addressed = read.1; spelled = read.0 })

esh_again : (hold : ℕ) (addresses : List (List ℕ)) (rest : List ℕ) → AllByRecursion IsAddress addresses
    → esh_at hold ((length addresses ∷ flat_map field addresses) ++ rest) ≡ Some (record { hello = Esh hold addresses; options = rest })
unfolding esh_at
esh_again hold addresses rest fits =
    ap (λ (r : Option (List (List ℕ) × List ℕ)). r >>= λ y. let z : Esis = record { hello = Esh hold y.0; options = y.1 } in Some z) (counted_again addresses rest fits)

-- ---- ISH

ish_takes : (hold : ℕ) (body : List ℕ) → IfSome (ish_at hold body) (IsRead 4 hold body)
unfolding ish_at
ish_takes hold body =
    then_some (address_at body) (λ x. Some (record { hello = Ish hold x.0; options = x.1 })) (IsAddressAt body) (IsRead 4 hold body) (address_takes body)
    (λ x read. record { type_is = refl; hold_is = refl; addressed = read.0; spelled = read.1 })

ish_again : (hold : ℕ) (title rest : List ℕ) → IsAddress title → ish_at hold (field title ++ rest) ≡ Some (record { hello = Ish hold title; options = rest })
unfolding ish_at
ish_again hold title rest fits =
    ap (λ (r : Option (List ℕ × List ℕ)). r >>= λ y. let z : Esis = record { hello = Ish hold y.0; options = y.1 } in Some z) (reads_address.there title rest fits)

-- ---- RD

rd_regroup : (a b c d : List ℕ) → ((a ++ b) ++ c) ++ d ≡ a ++ (b ++ (c ++ d))
rd_regroup a b c d = simp append_assoc

rd_takes : (hold : ℕ) (body : List ℕ) → IfSome (rd_at hold body) (IsRead 6 hold body)
unfolding rd_at
rd_takes hold body =
    then_some (address_at body) (λ x. snpa_at x.1 >>= λ y. title_at y.1 >>= λ z. Some (record { hello = Rd hold x.0 y.0 z.0; options = z.1 })) (IsAddressAt body) (IsRead 6 hold body) (address_takes body)
    (λ x one. then_some (snpa_at x.1) (λ y. title_at y.1 >>= λ z. Some (record { hello = Rd hold x.0 y.0 z.0; options = z.1 })) (IsSnpa x.1) (IsRead 6 hold body) (snpa_takes x.1)
    (λ y two. then_some (title_at y.1) (λ z. Some (record { hello = Rd hold x.0 y.0 z.0; options = z.1 })) (IsTitleAt y.1) (IsRead 6 hold body) (title_takes y.1)
    (λ z three. record {
      type_is = refl;
      hold_is = refl;
      addressed = (one.0, two.1, three.1);
      spelled = one.1 ∙ ap (λ (xs : List ℕ). field x.0 ++ xs) (two.0 ∙ ap (λ (xs : List ℕ). field y.0 ++ xs) three.0)
          ∙ sym (rd_regroup (field x.0) (field y.0) (title_field z.0) z.1);
    })))

rd_again : (hold : ℕ) (address snpa : List ℕ) (title : Option (List ℕ)) (rest : List ℕ) → IsAddress address → length snpa ≡ 6 → IfSome title IsAddress
    → rd_at hold (((field address ++ field snpa) ++ title_field title) ++ rest) ≡ Some (record { hello = Rd hold address snpa title; options = rest })
unfolding rd_at
rd_again hold address snpa title rest fits six titled =
    ap (rd_at hold) (rd_regroup (field address) (field snpa) (title_field title) rest)
    ∙ rw (reads_address.there address (field snpa ++ (title_field title ++ rest)) fits, snpa_again snpa (title_field title ++ rest) six, title_again title rest titled) refl

-- ---- by the type

by_type : (two four six : Bool) (type hold : ℕ) (body : List ℕ) → (two ≡ true → type ≡ 2) → (four ≡ true → type ≡ 4) → (six ≡ true → type ≡ 6)
    → IfSome (cond two (esh_at hold body) (cond four (ish_at hold body) (cond six (rd_at hold body) None))) (IsRead type hold body)
by_type true four six type hold body a b c = rw (a refl) (esh_takes hold body)
by_type false true six type hold body a b c = rw (b refl) (ish_takes hold body)
by_type false false true type hold body a b c = rw (c refl) (rd_takes hold body)
by_type false false false type hold body a b c = tt

pub parts_take : (type hold : ℕ) (body : List ℕ) → IfSome (parts_at type hold body) (IsRead type hold body)
unfolding parts_at
parts_take type hold body = by_type (type == 2) (type == 4) (type == 6) type hold body (λ e. grind arith) (λ e. grind arith) (λ e. grind arith)

pub parts_again : (hello : Hello) (rest : List ℕ) → IsAddressed hello
    → parts_at (type_of hello) (hold_of hello) (parts hello ++ rest) ≡ Some (record { hello = hello; options = rest })
unfolding parts_at
parts_again (Esh hold addresses) rest fits = esh_again hold addresses rest fits
parts_again (Ish hold title) rest fits = ish_again hold title rest fits
parts_again (Rd hold address snpa title) rest fits = rd_again hold address snpa title rest fits.0 fits.1 fits.2
