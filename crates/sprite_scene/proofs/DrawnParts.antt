-- Parts that are drawn one after another from the texture that is bound.
use Rattle.std.proofs.Common.{◌≡◌, ℕ, ◌+◌, ◌<◌, ◌≤◌, ℤ, pos, Bool, true, false, ◌&&◌, cond, List, [], ◌∷◌, ◌++◌, map, refl, sym, subst, ap, ◌∙◌, arith, None, Some, append_assoc, get_or}
use Rattle.std.specs.Prelude.{All}
use Rattle.std.proofs.lemmas.Bool.{and_parts}
use Rattle.std.proofs.lemmas.List.Elements.{All-head, All-tail}
use Rattle.std.proofs.lemmas.List.{append-nil}
use Rattle.pixel_formats.specs.declared.pixels.Pixel.{Pixel}
use Rattle.pixel_rows.specs.Images.{ImageValue}
use Rattle.pixel_rows.specs.Rects.{is_in}
use Rattle.rect_pipeline.specs.Targets.{rect_of}
use Rattle.share_group.specs.Names.{object_of}
use Rattle.texture_objects.specs.Textures.{TextureValue, crop_of}
use Rattle.egl_model.specs.State.{State}
use Rattle.sprite_scene.specs.Calls.{crop, draw_tex}
use Rattle.sprite_scene.specs.Draws.{Draw, drawn_rect, writes}
use Rattle.sprite_scene.specs.Painted.{pixel_of}
use Rattle.sprite_scene.specs.Runs.{after}
use Rattle.sprite_scene.specs.Samples.{sample}
use Rattle.sprite_scene.proofs.LineCalls.{Goes, Keeps}
use Rattle.sprite_scene.proofs.Pictures.{IsCutFrom, drawn_over, drawn_picture, stamp}
use Rattle.sprite_scene.proofs.PixelCalls.{IsCut, crop_in, draw_goes, drawn_target}
use Rattle.sprite_scene.proofs.Plays.{Plays, plays_none, plays_then}
use Rattle.sprite_scene.proofs.Stages.{one_more}
use Rattle.sprite_scene.proofs.TextureCalls.{Changed, crop_goes, cropped}
use Rattle.sprite_scene.proofs.Views.{Has, IsPicture, Stands, View}

-- the same pixels
pub picture_as : (i : ImageValue) (w h : ℕ) (p q : ℕ → ℕ → Pixel) → ((x y : ℕ) → x < w → y < h → p x y ≡ q x y) → IsPicture w h p i → IsPicture w h q i
picture_as i w h p q e k = record { whole = k.whole; format = k.format; width = k.width; height = k.height; each = λ x y l m. k.each x y l m ∙ e x y l m }

-- a draw shows a part of the texture that is cut out, on a target of these sides with this scissor box
pub record IsShownBy (tw th : ℕ) (clip : List ℤ) (pixel : ℕ → ℕ → Pixel) (u t cw ch : ℕ) (d : Draw) : Type 0 where
  pub some_wide : 1 ≤ d.drawn.width
  pub some_high : 1 ≤ d.drawn.height
  pub writes_as : (x y : ℕ) → x < tw → y < th → writes x y d ≡ (is_in (rect_of clip) x y && is_in (drawn_rect d.drawn) x y)
  pub shows : (x y : ℕ) → is_in (drawn_rect d.drawn) x y ≡ true → sample d x y ≡ stamp pixel u t cw ch d.drawn x y

-- behind draws the target has another picture; settings and textures are as they were, and so is the crop rectangle
pub record Next (s : State) (v : View) (b : ℕ) (cut : List ℤ) (ds : List Draw) (a : State) : Type 0 where
  pub target : ImageValue
  pub stands : Stands a (record v { target = target }) b
  pub picture : IsPicture v.w v.h (pixel_of ds) target
  pub cuts : IsCut a.objects (record v { target = target }) cut
  pub keeps : Keeps s v a

-- a choice of which one side is another where it is taken
same_if : {A : Type 0} (b : Bool) (p q r : A) → (b ≡ true → p ≡ q) → cond b p r ≡ cond b q r
same_if true p q r h = h refl
same_if false p q r h = refl

over_is : (tw th : ℕ) (clip : List ℤ) (pixel : ℕ → ℕ → Pixel) (u t cw ch : ℕ) (ds : List Draw) (d : Draw) (x y : ℕ) → IsShownBy tw th clip pixel u t cw ch d → x < tw → y < th →
    drawn_over (pixel_of ds) clip (stamp pixel u t cw ch d.drawn) d.drawn x y ≡ pixel_of (ds ++ d ∷ []) x y
over_is tw th clip pixel u t cw ch ds d x y e l m =
    let test : Bool = is_in (rect_of clip) x y && is_in (drawn_rect d.drawn) x y in
    same_if test (stamp pixel u t cw ch d.drawn x y) (sample d x y) (pixel_of ds x y) (λ on. sym (e.shows x y (and_parts (is_in (rect_of clip) x y) (is_in (drawn_rect d.drawn) x y) on).1))
    ∙ ap (λ w. cond w (sample d x y) (pixel_of ds x y)) (sym (e.writes_as x y l m))
    ∙ sym (one_more ds d x y)

abbrev pub crop_list : ℕ → ℕ → ℕ → ℕ → List ℤ
crop_list u t cw ch = crop_of (pos u) (pos t) (pos cw) (pos ch)

part_goes : (s : State) (v : View) (b w h : ℕ) (pixel : ℕ → ℕ → Pixel) (u t cw ch : ℕ) (ds : List Draw) (d : Draw) → Stands s v b → IsPicture v.w v.h (pixel_of ds) v.target → Has s.objects v.names v.name w h pixel → IsCut s.objects v (crop_list u t cw ch) →
    IsCutFrom pixel w h u t cw ch → IsShownBy v.w v.h v.clip pixel u t cw ch d → Goes s (draw_tex d.drawn) (Next s v b (crop_list u t cw ch) (ds ++ d ∷ []))
part_goes s v b w h pixel u t cw ch ds d k p a c f e =
    let cols = f.some_columns in
    let rows = f.some_rows in
    let wide = f.columns in
    let high = f.rows in
    let g = draw_goes s v b w h pixel (crop_list u t cw ch) d.drawn k a c (omega (arith, cols, wide)) (omega (arith, rows, high)) e.some_wide e.some_high in
    let n = g.holds in
    record {
      done = g.done;
      holds = record {
        target = drawn_target v n.from d.drawn;
        stands = n.stands;
        picture = picture_as (drawn_target v n.from d.drawn) v.w v.h _ (pixel_of (ds ++ d ∷ [])) (λ x y l m. over_is v.w v.h v.clip pixel u t cw ch ds d x y e l m)
            (drawn_picture v n.from d.drawn w h u t cw ch pixel (pixel_of ds) p n.sampler f);
        cuts = n.cuts;
        keeps = n.keeps;
      };
    }

parts_play : (s : State) (v : View) (b w h : ℕ) (pixel : ℕ → ℕ → Pixel) (u t cw ch : ℕ) (ds ps : List Draw) → Stands s v b → IsPicture v.w v.h (pixel_of ds) v.target → Has s.objects v.names v.name w h pixel → IsCut s.objects v (crop_list u t cw ch) →
    IsCutFrom pixel w h u t cw ch → All (IsShownBy v.w v.h v.clip pixel u t cw ch) ps → Plays s (map (λ d. draw_tex d.drawn) ps) (Next s v b (crop_list u t cw ch) (ds ++ ps))
parts_play s v b w h pixel u t cw ch ds [] k p a c f e =
    plays_none s (Next s v b (crop_list u t cw ch) (ds ++ [])) (subst (λ es. Next s v b (crop_list u t cw ch) es s) (sym (append-nil ds)) (record { target = v.target; stands = k; picture = p; cuts = c; keeps = λ name i j old z. z }))
parts_play s v b w h pixel u t cw ch ds (d ∷ ps) k p a c f e =
    plays_then s (draw_tex d.drawn) (map (λ d. draw_tex d.drawn) ps) (Next s v b (crop_list u t cw ch) (ds ++ d ∷ [])) (Next s v b (crop_list u t cw ch) (ds ++ d ∷ ps)) (part_goes s v b w h pixel u t cw ch ds d k p a c f (All-head (IsShownBy v.w v.h v.clip pixel u t cw ch) d ps e)) (λ m n.
    let more = parts_play m (record v { target = n.target }) b w h pixel u t cw ch (ds ++ d ∷ []) ps n.stands n.picture (n.keeps v.name w h pixel a) n.cuts f (All-tail (IsShownBy v.w v.h v.clip pixel u t cw ch) d ps e) in
    record {
      done = more.done;
      holds = subst (λ es. Next s v b (crop_list u t cw ch) es (after m (map (λ d. draw_tex d.drawn) ps))) (append_assoc ds (d ∷ []) ps) (record {
        target = more.holds.target;
        stands = more.holds.stands;
        picture = more.holds.picture;
        cuts = more.holds.cuts;
        keeps = λ name i j old z. more.holds.keeps name i j old (n.keeps name i j old z);
      });
    })

-- the part is cut out, and then drawn
pub cut_plays : (s : State) (v : View) (b w h : ℕ) (pixel : ℕ → ℕ → Pixel) (u t cw ch : ℕ) (ds ps : List Draw) → Stands s v b → IsPicture v.w v.h (pixel_of ds) v.target → Has s.objects v.names v.name w h pixel → v.texture ≡ object_of v.name v.names →
    IsCutFrom pixel w h u t cw ch → All (IsShownBy v.w v.h v.clip pixel u t cw ch) ps → Plays s (crop u t cw ch ∷ map (λ d. draw_tex d.drawn) ps) (Next s v b (crop_list u t cw ch) (ds ++ ps))
unfolding crop_in
cut_plays s v b w h pixel u t cw ch ds ps k p a bound f e =
    let x = a.object in
    let is : v.texture ≡ Some x = bound ∙ a.named in
    let new : TextureValue = cropped (crop_list u t cw ch) a.texture in
    plays_then s (crop u t cw ch) (map (λ d. draw_tex d.drawn) ps) (Changed s v b x new (Some a.storage)) (Next s v b (crop_list u t cw ch) (ds ++ ps)) (crop_goes s v b x a.texture (Some a.storage) u t cw ch k is a.textured) (λ m n.
    let more = parts_play m v b w h pixel u t cw ch ds ps n.stands p (n.keeps v.name w h pixel a) (record {
      bound = bound;
      crop = λ y g. ap (λ z. crop_in (get_or m.objects z None)) (some_is y x (sym g ∙ is)) ∙ ap crop_in n.texture.is;
    }) f e in
    record {
      done = more.done;
      holds = record {
        target = more.holds.target;
        stands = more.holds.stands;
        picture = more.holds.picture;
        cuts = more.holds.cuts;
        keeps = λ name i j old z. more.holds.keeps name i j old (n.keeps name i j old z);
      };
    })
  where
    some_is : (y x : ℕ) → Some y ≡ Some x → y ≡ x
    some_is y x h = cc
