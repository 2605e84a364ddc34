-- What the refusals of EGL ask of the state: each fact by itself, the same for every call that asks for it. A call that has no row for a fact never asks.
use Rattle.std.specs.Prelude.{ℕ, ℤ, pos, Bool, false, not, ◌&&◌, ◌||◌, ◌==◌, is_some}
use Rattle.attrib_lists.specs.declared.allowed.Allowed.TheVariants.{Config as ConfigList, Window as WindowList, Pbuffer as PbufferList, Context as ContextList, Image as ImageList}
use Rattle.call_rules.specs.declared.egl_facts.EglFacts.{EglFacts}
use Rattle.config_match.specs.Compatible.{are_compatible}
use Rattle.config_match.specs.Table.{attribute, is_config}
use Rattle.display_table.specs.declared.handles.HandleKind.TheVariants.{Context as a_context, Surface as a_surface, Image as an_image}
use Rattle.egl_calls.specs.Arguments.{signed}
use Rattle.egl_calls.specs.Calls.{CallValue}
use Rattle.egl_calls.specs.declared.places.TheConstants.{ATTRIBUTE, CONFIG, DISPLAY, NAMED}
use Rattle.egl_names.specs.declared.codes.TheConstants.{EGL_CONTEXT_CLIENT_VERSION, EGL_CONTEXT_MINOR_VERSION}
use Rattle.surface_store.specs.Surfaces.{pbuffer, query}
use Rattle.egl_model.specs.Arguments.{listed, number}
use Rattle.egl_model.specs.Configs.{is_list_allowed}
use Rattle.egl_model.specs.Contexts.{context_value_at, is_share, is_share_here}
use Rattle.egl_model.specs.Currents.{current_context, display_at}
use Rattle.egl_model.specs.Displays.{is_display, is_initialized}
use Rattle.egl_model.specs.Handles.{are_used_up, handle_at}
use Rattle.egl_model.specs.Images.{is_incomplete_in, is_sibling, is_source_in, source_object, source_storage}
use Rattle.egl_model.specs.MakeCurrent.{config_of_context, config_of_surface, context_handle, draw_handle, is_context_taken, is_surface_taken, read_handle}
use Rattle.egl_model.specs.State.{State}
use Rattle.egl_model.specs.Surfaces.{asked_height, asked_width, asks_for_largest, side_of, surface_bytes}
use Rattle.egl_model.specs.Sweep.{live_bytes}
use Rattle.egl_model.specs.Syncs.{sync_handle, sync_value_at}
use Rattle.egl_model.specs.Windows.{draws_to, is_used_at, is_window_config, named_place, named_spec}

-- ---- Attributes: all configs have the same, and so have all surfaces, all contexts and all syncs. So whether there is one is a question to its code alone, and any of them answers it.
abbrev pub is_config_attribute : ℤ → Bool
is_config_attribute a = is_some (attribute (pos 1) a)

abbrev pub is_surface_attribute : ℤ → Bool
is_surface_attribute a = is_some (query (pbuffer (pos 1) 0 0 false) a)

abbrev pub is_context_attribute : ℕ → Bool
is_context_attribute a = is_some (context_value_at 0 false a)

abbrev pub is_sync_attribute : ℕ → Bool
is_sync_attribute a = is_some (sync_value_at a false)

-- ---- What is current to the call's thread, or to others.
-- a context's config fits those of both surfaces, where all three are there
abbrev pub is_compatible : State → CallValue → Bool
is_compatible s c =
    not (is_some (context_handle s c) && is_some (draw_handle s c) && is_some (read_handle s c))
    || (are_compatible (config_of_context s (context_handle s c)) (config_of_surface s (draw_handle s c))
    && are_compatible (config_of_context s (context_handle s c)) (config_of_surface s (read_handle s c)))

abbrev pub is_surface_elsewhere : State → ℕ → CallValue → Bool
is_surface_elsewhere s t c = is_surface_taken s t (draw_handle s c) || is_surface_taken s t (read_handle s c)

abbrev pub is_current_here : State → ℕ → CallValue → Bool
is_current_here s t c = is_some (current_context s t) && (display_at s (current_context s t) == number c DISPLAY)

-- ---- Each fact.
abbrev pub facts_of : State → ℕ → CallValue → EglFacts
facts_of s t c = record {
  width = asked_width c;
  height = asked_height c;
  live_bytes = live_bytes s.objects;
  window_bytes = surface_bytes (signed c CONFIG) (named_spec s c).w (named_spec s c).h;
  pbuffer_bytes = surface_bytes (signed c CONFIG) (side_of (asked_width c)) (side_of (asked_height c));
  video_limit = s.video;
  version = listed c EGL_CONTEXT_CLIENT_VERSION (pos 1);
  minor_version = listed c EGL_CONTEXT_MINOR_VERSION (pos 0);
  is_display = is_display (number c DISPLAY);
  is_initialized = is_initialized s (number c DISPLAY);
  is_config = is_config (signed c CONFIG);
  is_config_attribute = is_config_attribute (signed c ATTRIBUTE);
  is_surface_attribute = is_surface_attribute (signed c ATTRIBUTE);
  is_context_attribute = is_context_attribute (number c ATTRIBUTE);
  is_sync_attribute = is_sync_attribute (number c ATTRIBUTE);
  is_config_list = is_list_allowed ConfigList c;
  is_window_list = is_list_allowed WindowList c;
  is_pbuffer_list = is_list_allowed PbufferList c;
  is_context_list = is_list_allowed ContextList c;
  is_image_list = is_list_allowed ImageList c;
  is_largest = asks_for_largest c;
  are_handles_used_up = are_used_up s;
  is_share = is_share s c;
  is_share_here = is_share_here s c;
  is_draw = is_some (draw_handle s c);
  is_read = is_some (read_handle s c);
  is_context = is_some (handle_at s c NAMED a_context);
  is_given_context = is_some (context_handle s c);
  is_compatible = is_compatible s c;
  is_context_elsewhere = is_context_taken s t (context_handle s c);
  is_surface_elsewhere = is_surface_elsewhere s t c;
  is_surface = is_some (handle_at s c NAMED a_surface);
  is_window_config = is_window_config (signed c CONFIG);
  is_window = is_some (named_place s c);
  is_window_used = is_used_at s.objects (named_place s c);
  is_drawn_to = draws_to s t (handle_at s c NAMED a_surface);
  is_sync = is_some (sync_handle s c);
  is_current = is_some (current_context s t);
  is_current_here = is_current_here s t c;
  is_image = is_some (handle_at s c NAMED an_image);
  is_source = is_source_in s.objects (source_object s c);
  is_incomplete = is_incomplete_in s.objects (source_object s c);
  is_level = is_some (source_storage s c);
  is_sibling = is_sibling s (source_storage s c);
}
