-- The definition is right: `is_utf8` holds exactly of the octets of a list of scalar values (`written-utf8`, `utf8-written`), and no other list
-- of scalar values has those octets (`written_once`). The grammar of RFC 3629 and its table say the same.
use Rattle.std.specs.Prelude.{ℕ, zero, suc, ◌+◌, ◌*◌, ◌-◌, ◌/◌, ◌%◌, ◌<◌, ◌≤◌, ◌≡◌, refl, List, [], ◌∷◌, ◌++◌, Bool, true, false, ◌&&◌, ◌⊎◌, leb, ltb, length, drop, get_or}
use Rattle.std.proofs.Common.{sym, ◌∙◌, ap, inl, inr, ⊎_elim, arith, length-append, le-leb, leb-true, leb-false, ltb-true, lt-ltb, le-ltb}
use Rattle.std.proofs.lemmas.Bool.{lt-leb}
use Rattle.basics.specs.Choice.{pick}
use Rattle.basics.specs.TestLaws.{and-of, or-of, both_true, or_left, or_right}
use Rattle.utf8.specs.Utf8.{Range, range, in_range, tail, Form, forms, begins, others_after, goes_on, is_utf8}
use Rattle.utf8.specs.Utf8.{is_scalar_value, octets, written, are_scalar_values, Written}
use Rattle.utf8.proofs.FormLaws.{Lies, in-range, lies, In, here, later, form-begun, InRanges, split, Character, character-first}

-- ---- the octets of a scalar value are a character

one-octet : (u : ℕ) → u ≤ 0x7F → octets u ≡ u ∷ []
one-octet u h = rw (le-leb u 0x7F h) refl

two-octets : (u : ℕ) → 0x7F < u → u ≤ 0x7FF → octets u ≡ (0xC0 + u / 64) ∷ (0x80 + u % 64) ∷ []
two-octets u g h = rw (lt-leb u 0x7F g, le-leb u 0x7FF h) refl

three-octets : (u : ℕ) → 0x7FF < u → u ≤ 0xFFFF → octets u ≡ (0xE0 + u / 4096) ∷ (0x80 + u / 64 % 64) ∷ (0x80 + u % 64) ∷ []
three-octets u g h = rw (lt-leb u 0x7F (omega arith), lt-leb u 0x7FF g, le-leb u 0xFFFF h) refl

four-octets : (u : ℕ) → 0xFFFF < u →
    octets u ≡ (0xF0 + u / 262144) ∷ (0x80 + u / 4096 % 64) ∷ (0x80 + u / 64 % 64) ∷ (0x80 + u % 64) ∷ []
four-octets u g = rw (lt-leb u 0x7F (omega arith), lt-leb u 0x7FF (omega arith), lt-leb u 0xFFFF g) refl

scalar-range : (u : ℕ) → is_scalar_value u ≡ true → (u < 0xD800) ⊎ ((0xDFFF < u) × (u ≤ 0x10FFFF))
scalar-range u e = ⊎_elim (λ l. inl (ltb-true u 0xD800 l)) (λ r. inr (above r)) (or-of (ltb u 0xD800) _ e)
  where
    above : ltb 0xDFFF u && leb u 0x10FFFF ≡ true → (0xDFFF < u) × (u ≤ 0x10FFFF)
    above r =
        let k = and-of (ltb 0xDFFF u) (leb u 0x10FFFF) r in
        (ltb-true 0xDFFF u k.0, leb-true u 0x10FFFF k.1)

range-scalar : (u : ℕ) → (u < 0xD800) ⊎ ((0xDFFF < u) × (u ≤ 0x10FFFF)) → is_scalar_value u ≡ true
range-scalar u =
    ⊎_elim (λ l. or_left _ (lt-ltb u 0xD800 l))
    (λ r. or_right (ltb u 0xD800) (both_true (lt-ltb 0xDFFF u r.0) (le-leb u 0x10FFFF r.1)))

by_size : {A : Type 0} (u n : ℕ) → (u ≤ n → A) → (n < u → A) → A
by_size {A} u n f g = go (leb u n) refl
  where
    go : (t : Bool) → leb u n ≡ t → A
    go true e = f (leb-true u n e)
    go false e = g (leb-false u n e)

tailed : (x : ℕ) → in_range tail (0x80 + x % 64) ≡ true
tailed x = in-range tail (0x80 + x % 64) (omega arith)

one_in : (u : ℕ) → u ≤ 0x7F → (f : Form) × Character f (octets u)
one_in u h =
    (_, record { one = here; head = u; rest = []; is = one-octet u h; begin = in-range (range 0 0x7F) u (omega arith); follow = tt })

two_in : (u : ℕ) → 0x7F < u → u ≤ 0x7FF → (f : Form) × Character f (octets u)
two_in u g h =
    let b = in-range (range 0xC2 0xDF) (0xC0 + u / 64) (omega arith) in
    (_, record { one = later here; head = _; rest = _; is = two-octets u g h; begin = b; follow = (tailed u, tt) })

three-in : (r s : Range) → In (record { first = r; others = s ∷ tail ∷ [] }) forms → (u : ℕ) → 0x7FF < u → u ≤ 0xFFFF →
    Lies r (0xE0 + u / 4096) → Lies s (0x80 + u / 64 % 64) → (f : Form) × Character f (octets u)
three-in r s i u g h d e =
    (_, record { one = i; head = _; rest = _; is = three-octets u g h; begin = in-range r _ d; follow = (in-range s _ e, (tailed u, tt)) })

four-in : (r s : Range) → In (record { first = r; others = s ∷ tail ∷ tail ∷ [] }) forms → (u : ℕ) → 0xFFFF < u →
    Lies r (0xF0 + u / 262144) → Lies s (0x80 + u / 4096 % 64) → (f : Form) × Character f (octets u)
four-in r s i u g d e =
    let b = in-range r _ d in
    let f = in-range s _ e in
    (_, record { one = i; head = _; rest = _; is = four-octets u g; begin = b; follow = (f, (tailed (u / 64), (tailed u, tt))) })

three-of : (u : ℕ) → 0x7FF < u → u ≤ 0xFFFF → (u < 0xD800) ⊎ ((0xDFFF < u) × (u ≤ 0x10FFFF)) → (f : Form) × Character f (octets u)
three-of u g h s =
    by_size u 0xFFF (λ l. three-in _ _ (later (later here)) u g h (omega arith) (omega arith))
    (λ k. by_size u 0xCFFF (λ l. three-in _ _ (later (later (later here))) u g h (omega arith) (omega arith))
    (λ k. ⊎_elim (λ l. three-in _ _ (later (later (later (later here)))) u g h (omega arith) (omega arith))
    (λ l. three-in _ _ (later (later (later (later (later here))))) u g h (omega arith) (omega arith)) s))

four-of : (u : ℕ) → 0xFFFF < u → u ≤ 0x10FFFF → (f : Form) × Character f (octets u)
four-of u g h =
    by_size u 0x3FFFF (λ l. four-in _ _ (later (later (later (later (later (later here)))))) u g (omega arith) (omega arith))
    (λ k. by_size u 0xFFFFF (λ l. four-in _ _ (later (later (later (later (later (later (later here))))))) u g (omega arith) (omega arith))
    (λ k. four-in _ _ (later (later (later (later (later (later (later (later here)))))))) u g (omega arith) (omega arith)))

in-form : (u : ℕ) → is_scalar_value u ≡ true → (f : Form) × Character f (octets u)
in-form u e =
    let s = scalar-range u e in
    let most : u ≤ 0x10FFFF = ⊎_elim (λ l. omega arith) (λ r. omega arith) s in
    by_size u 0x7F (one_in u) (λ g. by_size u 0x7FF (two_in u g) (λ k. by_size u 0xFFFF (λ l. three-of u k l s) (λ m. four-of u m most)))

-- ---- a character is the octets of a scalar value

record Decoded (l : List ℕ) : Type 0 where
  value : ℕ
  scalar : is_scalar_value value ≡ true
  is : octets value ≡ l

one-decoded : (a : ℕ) → a ≤ 0x7F → Decoded (a ∷ [])
one-decoded a h = record { value = a; scalar = range-scalar a (inl (omega arith)); is = one-octet a h }

two-decoded : (a b : ℕ) → Lies (range 0xC2 0xDF) a → Lies tail b → Decoded (a ∷ b ∷ [])
two-decoded a b g h =
    let u = (a - 0xC0) * 64 + (b - 0x80) in
    let p : 0xC0 + u / 64 ≡ a = omega arith in
    let q : 0x80 + u % 64 ≡ b = omega arith in
    record { value = u; scalar = range-scalar u (inl (omega arith)); is = two-octets u (omega arith) (omega arith) ∙ cc }

abbrev three_of : ℕ → ℕ → ℕ → ℕ
three_of a b c = (a - 0xE0) * 4096 + (b - 0x80) * 64 + (c - 0x80)

three-decoded : (a b c : ℕ) → Lies (range 0xE0 0xEF) a → Lies tail b → Lies tail c → 0x7FF < three_of a b c →
    (three_of a b c < 0xD800) ⊎ (0xDFFF < three_of a b c) → Decoded (a ∷ b ∷ c ∷ [])
three-decoded a b c i j k g s =
    let u = three_of a b c in
    let p : 0xE0 + u / 4096 ≡ a = omega arith in
    let q : 0x80 + u / 64 % 64 ≡ b = omega arith in
    let r : 0x80 + u % 64 ≡ c = omega arith in
    let m : u ≤ 0x10FFFF = omega arith in
    let scalar = range-scalar u (⊎_elim (λ l. inl l) (λ l. inr (l, m)) s) in
    record { value = u; scalar = scalar; is = three-octets u g (omega arith) ∙ cc }

abbrev four_of : ℕ → ℕ → ℕ → ℕ → ℕ
four_of a b c d = (a - 0xF0) * 262144 + (b - 0x80) * 4096 + (c - 0x80) * 64 + (d - 0x80)

four-decoded : (a b c d : ℕ) → Lies (range 0xF0 0xF4) a → Lies tail b → Lies tail c → Lies tail d → 0xFFFF < four_of a b c d →
    four_of a b c d ≤ 0x10FFFF → Decoded (a ∷ b ∷ c ∷ d ∷ [])
four-decoded a b c d i j k l g m =
    let u = four_of a b c d in
    let p : 0xF0 + u / 262144 ≡ a = omega arith in
    let q : 0x80 + u / 4096 % 64 ≡ b = omega arith in
    let r : 0x80 + u / 64 % 64 ≡ c = omega arith in
    let o : 0x80 + u % 64 ≡ d = omega arith in
    record { value = u; scalar = range-scalar u (inr (omega arith, m)); is = four-octets u g ∙ cc }

-- One, two and three octets after the first, taken out of their list.
single : {a : ℕ} (bs : List ℕ) → InRanges (tail ∷ []) bs → ((b : ℕ) → Lies tail b → Decoded (a ∷ b ∷ [])) → Decoded (a ∷ bs)
single [] e k = absurd e
single (b ∷ []) e k = k b (lies tail b e.0)
single (b ∷ c ∷ bs) e k = absurd e.1

pair : {a : ℕ} (s : Range) (bs : List ℕ) → InRanges (s ∷ tail ∷ []) bs →
    ((b c : ℕ) → Lies s b → Lies tail c → Decoded (a ∷ b ∷ c ∷ [])) → Decoded (a ∷ bs)
pair s [] e k = absurd e
pair s (b ∷ []) e k = absurd e.1
pair s (b ∷ c ∷ []) e k = k b c (lies s b e.0) (lies tail c e.1.0)
pair s (b ∷ c ∷ d ∷ bs) e k = absurd e.1.1

triple : {a : ℕ} (s : Range) (bs : List ℕ) → InRanges (s ∷ tail ∷ tail ∷ []) bs →
    ((b c d : ℕ) → Lies s b → Lies tail c → Lies tail d → Decoded (a ∷ b ∷ c ∷ d ∷ [])) → Decoded (a ∷ bs)
triple s [] e k = absurd e
triple s (b ∷ []) e k = absurd e.1
triple s (b ∷ c ∷ []) e k = absurd e.1.1
triple s (b ∷ c ∷ d ∷ []) e k = k b c d (lies s b e.0) (lies tail c e.1.0) (lies tail d e.1.1.0)
triple s (b ∷ c ∷ d ∷ x ∷ bs) e k = absurd e.1.1.1

decoded : {f : Form} → In f forms → (a : ℕ) (bs : List ℕ) → Lies f.first a → InRanges f.others bs → Decoded (a ∷ bs)
decoded here a [] w e = one-decoded a (omega arith)
decoded here a (b ∷ bs) w e = absurd e
decoded (later here) a bs w e = single bs e (λ b p. two-decoded a b w p)
decoded (later (later here)) a bs w e =
    pair (range 0xA0 0xBF) bs e (λ b c p q. three-decoded a b c (omega arith) (omega arith) q (omega arith) (inl (omega arith)))
decoded (later (later (later here))) a bs w e =
    pair tail bs e (λ b c p q. three-decoded a b c (omega arith) p q (omega arith) (inl (omega arith)))
decoded (later (later (later (later here)))) a bs w e =
    pair (range 0x80 0x9F) bs e (λ b c p q. three-decoded a b c (omega arith) (omega arith) q (omega arith) (inl (omega arith)))
decoded (later (later (later (later (later here))))) a bs w e =
    pair tail bs e (λ b c p q. three-decoded a b c (omega arith) p q (omega arith) (inr (omega arith)))
decoded (later (later (later (later (later (later here)))))) a bs w e =
    triple (range 0x90 0xBF) bs e (λ b c d p q r. four-decoded a b c d (omega arith) (omega arith) q r (omega arith) (omega arith))
decoded (later (later (later (later (later (later (later here))))))) a bs w e =
    triple tail bs e (λ b c d p q r. four-decoded a b c d (omega arith) p q r (omega arith) (omega arith))
decoded {f = f} (later (later (later (later (later (later (later (later (later x38))))))))) a bs w e = elim x38 [ ]
decoded (later (later (later (later (later (later (later (later here)))))))) a bs w e =
    triple (range 0x80 0x8F) bs e (λ b c d p q r. four-decoded a b c d (omega arith) (omega arith) q r (omega arith) (omega arith))

-- ---- UTF-8 and lists of scalar values

-- The octets of scalar values are UTF-8.
pub written-utf8 : (us : List ℕ) → are_scalar_values us ≡ true → is_utf8 (written us) ≡ true
unfolding goes_on
written-utf8 [] e = refl
written-utf8 (u ∷ us) e =
    let k = and-of (is_scalar_value u) (are_scalar_values us) e in
    character-first (octets u) (written us) (in-form u k.0).1 ∙ written-utf8 us k.1

one_more : {l v : List ℕ} → Decoded l → Written v → Written (l ++ v)
one_more d w = record { values = d.value ∷ w.values; scalars = both_true d.scalar w.scalars; is = rw (d.is, w.is) refl }

-- UTF-8 is the octets of scalar values.
pub utf8-written : (v : List ℕ) → is_utf8 v ≡ true → Written v
unfolding goes_on
utf8-written v = go (length v) v (omega arith)
  where
    go : (n : ℕ) (v : List ℕ) → length v ≤ n → is_utf8 v ≡ true → Written v
    go zero [] h e = record { values = []; scalars = refl; is = refl }
    go zero (a ∷ w) h e = absurd (omega arith)
    go (suc n) [] h e = record { values = []; scalars = refl; is = refl }
    go (suc n) (a ∷ w) h e =
        let k = and-of (begins forms a) (goes_on (others_after forms a) w) e in
        let b = form-begun forms a k.0 in
        let s = split b.form.others w (rw b.after at k.1) in
        let d = decoded b.one a s.0 (lies b.form.first a b.begin) s.3 in
        let r = go n s.1 (omega (arith, ap length s.2, length-append s.0 s.1)) s.4 in
        rw s.2 (one_more d r)

-- The first scalar value of what is written, and what is written after it.
abbrev first_of : List ℕ → ℕ
first_of v =
    let a = get_or v 0 0 in
    pick (ltb a 0x80) a
    (pick (ltb a 0xE0) ((a - 0xC0) * 64 + (get_or v 1 0 - 0x80))
    (pick (ltb a 0xF0) (three_of a (get_or v 1 0) (get_or v 2 0)) (four_of a (get_or v 1 0) (get_or v 2 0) (get_or v 3 0))))

abbrev after_first : List ℕ → List ℕ
after_first v =
    let a = get_or v 0 0 in
    pick (ltb a 0x80) (drop 1 v) (pick (ltb a 0xE0) (drop 2 v) (pick (ltb a 0xF0) (drop 3 v) (drop 4 v)))

abbrev Back : ℕ → List ℕ → Type 0
Back u v = (first_of (octets u ++ v) ≡ u) × (after_first (octets u ++ v) ≡ v)

one-back : (u : ℕ) (v : List ℕ) → u ≤ 0x7F → Back u v
one-back u v h = rw (one-octet u h, lt-ltb u 0x80 (omega arith)) (refl, refl)

two_back : (u : ℕ) (v : List ℕ) → 0x7F < u → u ≤ 0x7FF → Back u v
two_back u v g h =
    let a = 0xC0 + u / 64 in
    rw (two-octets u g h, le-ltb a 0x80 (omega arith), lt-ltb a 0xE0 (omega arith)) (omega arith, refl)

three_back : (u : ℕ) (v : List ℕ) → 0x7FF < u → u ≤ 0xFFFF → Back u v
three_back u v g h =
    let a = 0xE0 + u / 4096 in
    rw (three-octets u g h, le-ltb a 0x80 (omega arith), le-ltb a 0xE0 (omega arith), lt-ltb a 0xF0 (omega arith)) (omega arith, refl)

four-back : (u : ℕ) (v : List ℕ) → 0xFFFF < u → Back u v
four-back u v g =
    let a = 0xF0 + u / 262144 in
    let i : u ≡ 64 * (u / 64) + u % 64 = omega arith in
    let j : u / 64 ≡ 64 * (u / 4096) + u / 64 % 64 = omega arith in
    let k : u / 4096 ≡ 64 * (u / 262144) + u / 4096 % 64 = omega arith in
    rw (four-octets u g, le-ltb a 0x80 (omega arith), le-ltb a 0xE0 (omega arith), le-ltb a 0xF0 (omega arith)) (omega arith, refl)

read_back : (u : ℕ) (v : List ℕ) → Back u v
read_back u v =
    by_size u 0x7F (one-back u v)
    (λ g. by_size u 0x7FF (two_back u v g) (λ k. by_size u 0xFFFF (three_back u v k) (four-back u v)))

some-octets : {A : Type 0} (u : ℕ) (v : List ℕ) → is_scalar_value u ≡ true → [] ≡ octets u ++ v → A
some-octets u v s e =
    let c = (in-form u s).1 in
    absurd (omega (arith, ap length (e ∙ ap (◌++ v) c.is)))

-- Of one list of scalar values only.
pub written_once : (us ws : List ℕ) → are_scalar_values us ≡ true → are_scalar_values ws ≡ true → written us ≡ written ws → us ≡ ws
written_once [] [] s t e = refl
written_once [] (w ∷ ws) s t e = some-octets w (written ws) (and-of (is_scalar_value w) (are_scalar_values ws) t).0 e
written_once (u ∷ us) [] s t e = some-octets u (written us) (and-of (is_scalar_value u) (are_scalar_values us) s).0 (sym e)
written_once (u ∷ us) (w ∷ ws) s t e =
    let k = and-of (is_scalar_value u) (are_scalar_values us) s in
    let l = and-of (is_scalar_value w) (are_scalar_values ws) t in
    let x = read_back u (written us) in
    let y = read_back w (written ws) in
    let f : u ≡ w = sym x.0 ∙ ap first_of e ∙ y.0 in
    let r : us ≡ ws = written_once us ws k.1 l.1 (sym x.1 ∙ ap after_first e ∙ y.1) in
    ap (u ∷◌) r ∙ ap (◌∷ ws) f
