-- A behaviour is the one that its view is of; its own row is one of its rows.
use Rattle.std.specs.Prelude.{◌≡◌, refl, Bool, true, false, ◌||◌, ℕ, T, eqb}
use Rattle.std.proofs.Common.{◌∙◌, ap, arith}
use Rattle.std.proofs.Math.Dec.{eqb_refl}
use Rattle.network_syntax.specs.Syntax.{Optional, none, some, Behaviour, nil, one_way, request_response, notification, solicit_response, if_then_else}
use Rattle.network_syntax.specs.Syntax.{while_do, sequence, parallel, assign, choice, waiting, answering}
use Rattle.network_syntax.specs.Rows.{row_of, has_row, has_row_in, View, receives, sends, moves, offers, other, view_of, Input, input_in, input_of, from_input}
use Rattle.network_syntax.specs.Rows.{Output, output_in, output_of, from_output, Local, local_in, local_of, from_local, Choice, choice_in, choice_of, from_choice}

pub none-some : {A : Type 0} {a : A} → none ≡ some a → ⊥
none-some h = let z : ◌≡◌ {A = ℕ} 0 1 = cc in omega arith

pub some_inj : {A : Type 0} {a b : A} → some a ≡ some b → a ≡ b
some_inj h = cc

-- The behaviour b is what the view says.
abbrev IsView : Behaviour → View → Type 0
IsView b (receives i) = b ≡ from_input i
IsView b (sends u) = b ≡ from_output u
IsView b (moves l) = b ≡ from_local l
IsView b (offers c) = b ≡ from_choice c
IsView b other = Unit {0}

view-is : (b : Behaviour) → IsView b (view_of b)
view-is (nil r) = tt
view-is (one_way r o x) = refl
view-is (request_response r o x c d) = refl
view-is (notification r o e) = refl
view-is (solicit_response r o e x) = refl
view-is (if_then_else r e a b) = refl
view-is (while_do r e b) = refl
view-is (sequence r a b) = tt
view-is (parallel r a b) = tt
view-is (assign r x e) = refl
view-is (choice r m) = refl
view-is (waiting r o x) = tt
view-is (answering r o c d) = tt

pub input-is : (b : Behaviour) (i : Input) → input_of b ≡ some i → b ≡ from_input i
input-is b i h = go (view_of b) (view-is b) h
  where
    go : (v : View) → IsView b v → input_in v ≡ some i → b ≡ from_input i
    go (receives x) e h = e ∙ ap from_input (some_inj h)
    go (sends x) e h = absurd (none-some h)
    go (moves x) e h = absurd (none-some h)
    go (offers x) e h = absurd (none-some h)
    go other e h = absurd (none-some h)

pub output-is : (b : Behaviour) (u : Output) → output_of b ≡ some u → b ≡ from_output u
output-is b u h = go (view_of b) (view-is b) h
  where
    go : (v : View) → IsView b v → output_in v ≡ some u → b ≡ from_output u
    go (receives x) e h = absurd (none-some h)
    go (sends x) e h = e ∙ ap from_output (some_inj h)
    go (moves x) e h = absurd (none-some h)
    go (offers x) e h = absurd (none-some h)
    go other e h = absurd (none-some h)

pub local-is : (b : Behaviour) (l : Local) → local_of b ≡ some l → b ≡ from_local l
local-is b l h = go (view_of b) (view-is b) h
  where
    go : (v : View) → IsView b v → local_in v ≡ some l → b ≡ from_local l
    go (receives x) e h = absurd (none-some h)
    go (sends x) e h = absurd (none-some h)
    go (moves x) e h = e ∙ ap from_local (some_inj h)
    go (offers x) e h = absurd (none-some h)
    go other e h = absurd (none-some h)

pub choice-is : (b : Behaviour) (c : Choice) → choice_of b ≡ some c → b ≡ from_choice c
choice-is b c h = go (view_of b) (view-is b) h
  where
    go : (v : View) → IsView b v → choice_in v ≡ some c → b ≡ from_choice c
    go (receives x) e h = absurd (none-some h)
    go (sends x) e h = absurd (none-some h)
    go (moves x) e h = absurd (none-some h)
    go (offers x) e h = e ∙ ap from_choice (some_inj h)
    go other e h = absurd (none-some h)

own : (r : ℕ) (c : Bool) → T (eqb r r || c)
own r c = go (eqb r r) (eqb_refl r)
  where
    go : (b : Bool) → T b → T (b || c)
    go true t = tt
    go false t = absurd t

pub own_row : (b : Behaviour) → T (has_row (row_of b) b)
unfolding has_row row_of
own_row (nil r) = eqb_refl r
own_row (one_way r o x) = eqb_refl r
own_row (request_response r o x c d) = own r (has_row r d)
own_row (notification r o e) = eqb_refl r
own_row (solicit_response r o e x) = eqb_refl r
own_row (if_then_else r e a b) = own r (has_row r a || has_row r b)
own_row (while_do r e b) = own r (has_row r b)
own_row (sequence r a b) = own r (has_row r a || has_row r b)
own_row (parallel r a b) = own r (has_row r a || has_row r b)
own_row (assign r x e) = eqb_refl r
own_row (choice r m) = own r (has_row_in r m)
own_row (waiting r o x) = eqb_refl r
own_row (answering r o c d) = own r (has_row r d)
