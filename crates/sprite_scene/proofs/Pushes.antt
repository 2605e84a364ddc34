-- Lists of calls that grow.
use Rattle.std.proofs.Common.{◌≡◌, ℕ, List, ◌++◌, ap, ◌∙◌, append_assoc}
use Rattle.egl_calls.specs.Calls.{CallValue}
use Rattle.sprite_scene.specs.Calls.{new_texture}

-- three pieces, one after another
pub three_pushed : (old one two front bs cs : List CallValue) → one ≡ old ++ front → two ≡ one ++ bs → two ++ cs ≡ old ++ (front ++ (bs ++ cs))
three_pushed old one two front bs cs a b =
    ap (λ (l : List CallValue). l ++ cs) (b ∙ ap (λ (l : List CallValue). l ++ bs) a)
    ∙ append_assoc (old ++ front) bs cs
    ∙ append_assoc old front (bs ++ cs)

pub four_pushed : (old one two three front bs cs ds : List CallValue) → one ≡ old ++ front → two ≡ one ++ bs → three ≡ two ++ cs → three ++ ds ≡ old ++ (front ++ (bs ++ (cs ++ ds)))
four_pushed old one two three front bs cs ds a b c =
    ap (λ (l : List CallValue). l ++ ds) (c ∙ ap (λ (l : List CallValue). l ++ cs) (b ∙ ap (λ (l : List CallValue). l ++ bs) a))
    ∙ append_assoc ((old ++ front) ++ bs) cs ds
    ∙ append_assoc (old ++ front) bs (cs ++ ds)
    ∙ append_assoc old front (bs ++ (cs ++ ds))

pub texture_is : (name w w' h h' : ℕ) (texels texels' : List ℕ) → w ≡ w' → h ≡ h' → texels ≡ texels' → new_texture name w h texels ≡ new_texture name w' h' texels'
texture_is name w w' h h' texels texels' a b c =
    ap (λ (n : ℕ). new_texture name n h texels) a ∙ ap (λ (n : ℕ). new_texture name w' n texels) b ∙ ap (λ (t : List ℕ). new_texture name w' h' t) c
