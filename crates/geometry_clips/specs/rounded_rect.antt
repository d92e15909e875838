pub mod RoundedRect
