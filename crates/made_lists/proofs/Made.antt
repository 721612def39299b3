-- An array that a function gives of each element of another one.
use Rattle.std.proofs.Common.{ℕ, ◌≡◌, ◌<◌, List, length, map, get_or, ap, sym, ◌∙◌, Bor, arith}
use Rattle.std.specs.Fn.{Mut, Called}
use Rattle.std.specs.Array.{IsMapOf}
use Rattle.std.proofs.lemmas.List.{ext_get_or, length-map, get_or-map}

pub made_of : {A B F : Type 0} (g : Mut F (A × Unit {0}) B) (f : F) (change : A → B) (xs : List A) (ys : List B) (n : ℕ) (d : A)
    → length xs ≡ n → IsMapOf g f xs ys n → ((p : F) (x : A) (y : B) (q : F) → Called g p (x, tt) y q → y ≡ change x) → ys ≡ map change xs
made_of g f change xs ys n d long made gives =
    ext_get_or (change d) ys (map change xs) (made.long ∙ sym long ∙ sym (length-map xs change)) (λ i h.
    let within : i < n = omega (arith, made.long) in
    let one = made.at i d (change d) within in
    gives one.0 (get_or xs i d) (get_or ys i (change d)) one.1 one.2 ∙ sym (get_or-map change xs i d (change d) (omega (arith, long))))

-- and of a reference to each element
pub made_of_each : {A B F : Type 0} (g : Mut F (Bor A × Unit {0}) B) (f : F) (change : A → B) (refs : List (Bor A)) (xs : List A) (ys : List B) (n : ℕ) (d : A)
    → length xs ≡ n → map (λ r. r.now) refs ≡ xs → IsMapOf g f refs ys n → ((p : F) (r : Bor A) (y : B) (q : F) → Called g p (r, tt) y q → y ≡ change r.now) → ys ≡ map change xs
made_of_each {A} g f change refs xs ys n d long are made gives =
    let none : Bor A = record { ref_ptr = (0, 0); now = d } in
    let count : length refs ≡ length xs = sym (length-map refs (λ (r : Bor A). r.now)) ∙ ap length are in
    ext_get_or (change d) ys (map change xs) (made.long ∙ sym long ∙ sym (length-map xs change)) (λ i h.
    let within : i < n = omega (arith, made.long) in
    let one = made.at i none (change d) within in
    let here : get_or xs i d ≡ (get_or refs i none).now =
    ap (λ l. get_or l i d) (sym are) ∙ get_or-map (λ (r : Bor A). r.now) refs i none d (omega (arith, long, count))
    in
    gives one.0 (get_or refs i none) (get_or ys i (change d)) one.1 one.2 ∙ ap change (sym here) ∙ sym (get_or-map change xs i d (change d) (omega (arith, long))))
