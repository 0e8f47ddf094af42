-- What is made of operands is made of the list of them.
use Rattle.std.proofs.Common.{◌≡◌, List, [], ◌∷◌, Option, Some, None, option_map, refl}
use Rattle.serde_json.specs.Data.{Data}
use Rattle.job_json.specs.Instruction.{one, two, three, four}
use Rattle.job_json.specs.Json.{◌>>=◌}

make_one : {A B : Type 0} (o : Option A) (make : A → B) → option_map make o ≡ option_map make (option_map (λ x. x) o)
make_one None make = refl
make_one (Some a) make = refl

make_two : {A B C : Type 0} (o : Option A) (p : Option B) (make : A → B → C) → (o >>= λ a. option_map (make a) p) ≡ option_map (λ (x : A × B). make x.0 x.1) (o >>= λ a. option_map (λ b. (a, b)) p)
make_two None p make = refl
make_two (Some a) None make = refl
make_two (Some a) (Some b) make = refl

make_three : {A B C D : Type 0} (o : Option A) (p : Option B) (q : Option C) (make : A → B → C → D) →
    (o >>= λ a. p >>= λ b. option_map (make a b) q) ≡ option_map (λ (x : A × B × C). make x.0 x.1 x.2) (o >>= λ a. p >>= λ b. option_map (λ c. (a, b, c)) q)
make_three None p q make = refl
make_three (Some a) None q make = refl
make_three (Some a) (Some b) None make = refl
make_three (Some a) (Some b) (Some c) make = refl

make_four : {A B C D E : Type 0} (o : Option A) (p : Option B) (q : Option C) (r : Option D) (make : A → B → C → D → E) →
    (o >>= λ a. p >>= λ b. q >>= λ c. option_map (make a b c) r) ≡ option_map (λ (x : A × B × C × D). make x.0 x.1 x.2 x.3) (o >>= λ a. p >>= λ b. q >>= λ c. option_map (λ d. (a, b, c, d)) r)
make_four None p q r make = refl
make_four (Some a) None q r make = refl
make_four (Some a) (Some b) None r make = refl
make_four (Some a) (Some b) (Some c) None make = refl
make_four (Some a) (Some b) (Some c) (Some d) make = refl

pub one_made : {A B : Type 0} (f : Data → Option A) (make : A → B) (ds : List Data) → one f make ds ≡ option_map make (one f (λ x. x) ds)
unfolding one
one_made f make [] = refl
one_made f make (x ∷ []) = make_one (f x) make
one_made f make (x ∷ y ∷ ds) = refl

pub two_made : {A B C : Type 0} (f : Data → Option A) (g : Data → Option B) (make : A → B → C) (ds : List Data) →
    two f g make ds ≡ option_map (λ (x : A × B). make x.0 x.1) (two f g (λ x y. (x, y)) ds)
unfolding one two
two_made f g make [] = refl
two_made f g make (x ∷ []) = refl
two_made f g make (x ∷ y ∷ []) = make_two (f x) (g y) make
two_made f g make (x ∷ y ∷ z ∷ ds) = refl

pub three_made : {A B C D : Type 0} (f : Data → Option A) (g : Data → Option B) (h : Data → Option C) (make : A → B → C → D) (ds : List Data) →
    three f g h make ds ≡ option_map (λ (x : A × B × C). make x.0 x.1 x.2) (three f g h (λ x y z. (x, y, z)) ds)
unfolding one two three
three_made f g h make [] = refl
three_made f g h make (x ∷ []) = refl
three_made f g h make (x ∷ y ∷ []) = refl
three_made f g h make (x ∷ y ∷ z ∷ []) = make_three (f x) (g y) (h z) make
three_made f g h make (x ∷ y ∷ z ∷ w ∷ ds) = refl

pub four_made : {A B C D E : Type 0} (f : Data → Option A) (g : Data → Option B) (h : Data → Option C) (k : Data → Option D) (make : A → B → C → D → E) (ds : List Data) →
    four f g h k make ds ≡ option_map (λ (x : A × B × C × D). make x.0 x.1 x.2 x.3) (four f g h k (λ x y z w. (x, y, z, w)) ds)
unfolding one two three four
four_made f g h k make [] = refl
four_made f g h k make (x ∷ []) = refl
four_made f g h k make (x ∷ y ∷ []) = refl
four_made f g h k make (x ∷ y ∷ z ∷ []) = refl
four_made f g h k make (x ∷ y ∷ z ∷ w ∷ []) = make_four (f x) (g y) (h z) (k w) make
four_made f g h k make (x ∷ y ∷ z ∷ w ∷ v ∷ ds) = refl
