-- The move of bits is a permutation of the places below 4n.
use Rattle.std.proofs.Common.{◌≡◌, refl, sym, ◌∙◌, ap, ℕ, ◌+◌, ◌*◌, ◌-◌, ◌%◌, ◌<◌, ◌≤◌, Bool, true, false, cond, arith, nat_lt}
use Rattle.std.proofs.Math.Nat.{mod-lt, mod-eq_of_lt, add-mul-mod_self_right}
use Rattle.std.proofs.lemmas.Nat.{mul-mod_second}
use Rattle.program_spec.specs.Demo.{moved_to}

-- the place from which a place gets its bit
abbrev pub moved_from : ℕ → ℕ → ℕ
moved_from n e = cond (nat_lt e (4 * n - 1)) ((4 * e) % (4 * n - 1)) e

below : (i m : ℕ) → nat_lt i m ≡ true → i < m
below i m h = grind (arith, h)

not_below : (i m : ℕ) → nat_lt i m ≡ false → m ≤ i
not_below i m h = grind (arith, h)

module _ (n : ℕ) (size : 1 ≤ n) where
  abbrev last : ℕ
  last = 4 * n - 1

  some_last : 0 < last
  some_last = omega arith

  -- 4n is 1 more than the modulus
  four_times : (x i : ℕ) → x ≡ 4 * n * i → i < last → x % last ≡ i
  four_times x i e h = ap (λ y. y % last) (e ∙ spread) ∙ add-mul-mod_self_right i i last ∙ mod-eq_of_lt h
    where
      spread : 4 * n * i ≡ i + i * last
      spread = let is : 4 * n ≡ last + 1 = omega arith in ap (λ y. y * i) is ∙ out
        where
          out : (last + 1) * i ≡ i + i * last
          out = grind arith

  there : (i : ℕ) → i < last → (4 * ((n * i) % last)) % last ≡ i
  there i h = mul-mod_second 4 (n * i) last ∙ four_times (4 * (n * i)) i (grind arith) h

  back : (e : ℕ) → e < last → (n * ((4 * e) % last)) % last ≡ e
  back e h = mul-mod_second n (4 * e) last ∙ four_times (n * (4 * e)) e (grind arith) h

  moves_within : (i : ℕ) (b : Bool) → nat_lt i last ≡ b → i < 4 * n → cond b ((n * i) % last) i < 4 * n
  moves_within i true e h = let less = mod-lt (n * i) some_last in omega arith
  moves_within i false e h = h

  pub moved_within : (i : ℕ) → i < 4 * n → moved_to n i < 4 * n
  moved_within i h = moves_within i (nat_lt i last) refl h

  comes_within : (e : ℕ) (b : Bool) → nat_lt e last ≡ b → e < 4 * n → cond b ((4 * e) % last) e < 4 * n
  comes_within e true q h = let less = mod-lt (4 * e) some_last in omega arith
  comes_within e false q h = h

  pub from_within : (e : ℕ) → e < 4 * n → moved_from n e < 4 * n
  from_within e h = comes_within e (nat_lt e last) refl h

  is_below : (i : ℕ) → i < last → nat_lt i last ≡ true
  is_below i h = grind (arith, h)

  there_at : (i : ℕ) (b : Bool) → nat_lt i last ≡ b → moved_from n (cond b ((n * i) % last) i) ≡ i
  there_at i true e =
      ap (λ b. cond b ((4 * ((n * i) % last)) % last) ((n * i) % last)) (is_below ((n * i) % last) (mod-lt (n * i) some_last)) ∙ there i (below i last e)
  there_at i false e = ap (λ b. cond b ((4 * i) % last) i) e

  -- what was moved is moved back
  pub moved_back : (i : ℕ) → moved_from n (moved_to n i) ≡ i
  moved_back i = there_at i (nat_lt i last) refl

  back_at : (e : ℕ) (b : Bool) → nat_lt e last ≡ b → moved_to n (cond b ((4 * e) % last) e) ≡ e
  back_at e true q =
      ap (λ b. cond b ((n * ((4 * e) % last)) % last) ((4 * e) % last)) (is_below ((4 * e) % last) (mod-lt (4 * e) some_last)) ∙ back e (below e last q)
  back_at e false q = ap (λ b. cond b ((n * e) % last) e) q

  pub moved_on : (e : ℕ) → moved_to n (moved_from n e) ≡ e
  moved_on e = back_at e (nat_lt e last) refl

  pub moved_once : (i j : ℕ) → moved_to n i ≡ moved_to n j → i ≡ j
  moved_once i j e = sym (moved_back i) ∙ ap (moved_from n) e ∙ moved_back j
