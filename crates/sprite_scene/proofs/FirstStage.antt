-- The invariant before all items.
use Rattle.std.proofs.Common.{◌≡◌, ℕ, zero, suc, ◌+◌, ◌*◌, ◌≤◌, pos, true, [], refl, ap, ◌∙◌, arith, None, Some, get_or}
use Rattle.std.specs.Prelude.{replicate}
use Rattle.std.proofs.lemmas.List.{length-replicate}
use Rattle.egl_names.specs.declared.codes.TheConstants.{GL_SCISSOR_TEST, GL_TEXTURE_2D}
use Rattle.context_state.specs.Parts.{whole}
use Rattle.pixel_formats.specs.Pixels.{quantize}
use Rattle.pixel_formats.specs.declared.formats.Format.TheVariants.{Rgba8888}
use Rattle.pixel_formats.specs.declared.pixels.Pixel.{Pixel}
use Rattle.pixel_rows.specs.Images.{blank, no_pixel}
use Rattle.pixel_rows.proofs.Stored.{quantize-eight}
use Rattle.egl_model.specs.Effects.{valued}
use Rattle.egl_model.specs.State.{State}
use Rattle.egl_model.specs.Step.{done}
use Rattle.scene_reader.specs.declared.items.Atlas.{Atlas}
use Rattle.sprite_scene.specs.Calls.{create_context, create_pbuffer, enable, get_display, initialize, make_current, opening_calls, replace}
use Rattle.sprite_scene.specs.Painted.{pixel_of}
use Rattle.sprite_scene.specs.Runs.{opened}
use Rattle.sprite_scene.proofs.LineCalls.{effect_of}
use Rattle.sprite_scene.proofs.OpeningCalls.{Begun, context_step, current_goes, display_step, first_part, initialize_step, last_part, pbuffer_step, replace_goes, scissor_test_goes, second_part, texture_goes, third_part, with_context_made, with_pbuffer, idle}
use Rattle.sprite_scene.proofs.Plays.{Plays, plays_one, plays_step, plays_then}
use Rattle.sprite_scene.proofs.SmoothLaws.{no_pixel_bytes}
use Rattle.sprite_scene.proofs.Stages.{Stage}
use Rattle.sprite_scene.proofs.Views.{IsPicture, View}

all_same : (p : Pixel) (n k : ℕ) → get_or (replicate n p) k p ≡ p
all_same p zero k = refl
all_same p (suc n) zero = refl
all_same p (suc n) (suc k) = all_same p n k

blank_picture : (w h : ℕ) → w ≤ 2048 → h ≤ 2048 → IsPicture w h (pixel_of []) (blank Rgba8888 w h)
blank_picture w h a b = record {
  whole = record { wide = a; high = b; area = length-replicate (h * w) (quantize Rgba8888 no_pixel) };
  format = refl;
  width = refl;
  height = refl;
  each = λ x y l m. ap (λ q. get_or (replicate (h * w) q) (y * w + x) no_pixel) (quantize-eight no_pixel no_pixel_bytes) ∙ all_same no_pixel (h * w) (y * w + x);
}

abbrev pub first_view : ℕ → ℕ → View
first_view w h = record { w = w; h = h; clip = whole w h; name = 0; texture = None; target = blank Rgba8888 w h; names = [] }

no_atlas_yet : {A : Type 0} (a : Atlas) → None ≡ Some a → A
no_atlas_yet a h = absurd cc

first_stage : (w h : ℕ) (s : State) → w ≤ 2048 → h ≤ 2048 → Begun w h (last_part w h) s → Stage w h None [] [] s
first_stage w h s a b g = record {
  view = first_view w h;
  wide = refl;
  high = refl;
  box = refl;
  stands = record { thread = g.thread; shows = g.shows; few = let f = g.few in omega (arith, f) };
  picture = blank_picture w h a b;
  ids = λ id x e. no_atlas_yet x e;
  small = λ id x e. no_atlas_yet x e;
  atlases = λ id x e. no_atlas_yet x e;
  bytes = λ x y. no_pixel_bytes;
  free = λ n e l. refl;
}

pub opening_plays : (w h : ℕ) → w ≤ 2048 → h ≤ 2048 → Plays opened (opening_calls w h) (Stage w h None [] [])
opening_plays w h a b =
    let Q = Stage w h None [] [] in
    plays_step opened get_display (done (effect_of opened get_display)) opened _ Q display_step refl
    (plays_step opened initialize (done (effect_of opened initialize)) (idle true [] [] 3) _ Q initialize_step refl
    (plays_step (idle true [] [] 3) (create_pbuffer w h) (done (valued (pos 3) (with_pbuffer w h))) (with_pbuffer w h) _ Q (pbuffer_step w h a b) refl
    (plays_step (with_pbuffer w h) create_context (done (valued (pos 4) (with_context_made w h))) (with_context_made w h) _ Q (context_step w h) refl
    (plays_then (with_context_made w h) make_current _ (Begun w h (first_part w h)) Q (current_goes w h) (λ s g.
    plays_then s replace _ (Begun w h (second_part w h)) Q (replace_goes w h s g) (λ t i.
    plays_then t (enable GL_TEXTURE_2D) _ (Begun w h (third_part w h)) Q (texture_goes w h t i) (λ u j.
    plays_one u (enable GL_SCISSOR_TEST) (Begun w h (last_part w h)) Q (scissor_test_goes w h u j) (λ v k. first_stage w h v a b k))))))))
